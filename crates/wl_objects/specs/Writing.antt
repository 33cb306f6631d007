-- What a call's arguments must be, and the message made from them.
use Rattle.std.specs.Prelude.{ℕ, ℤ, suc, ◌+◌, Bool, true, false, ◌&&◌, not, List, [], ◌∷◌, ◌++◌}
use Rattle.std.specs.Prelude.{map}
use Rattle.std.specs.Prelude.{◌≡◌, ◌≤◌, ◌<◌, length, nat_eq, if◌then◌else◌, Option, Some, None}
use Rattle.wl_wire.specs.declared.kind.Kind.{Kind}
use Rattle.wl_wire.specs.declared.kind.Kind.TheVariants as kinds
use Rattle.wl_wire.specs.declared.kind.Iface.{Iface}
use Rattle.wl_wire.specs.Argument.{Argument, Shape, reshaped, units, Int, Uint, Fixed, Str, Obj}
use Rattle.wl_wire.specs.Argument.{New, NewNamed, Array, Fd}
use Rattle.wl_wire.specs.Word.{header_bytes, signed}
use Rattle.wl_wire.specs.Spelling.{canonical, spelled_len, Fits, has_nul}
use Rattle.wl_objects.specs.declared.argument.Arg.{Arg}
use Rattle.wl_objects.specs.declared.calling.Measured.{Measured}
use Rattle.wl_objects.specs.declared.writing.CallMessage.{CallMessage}
use Rattle.wl_objects.specs.declared.writing.BindMessage.{BindMessage}
use Rattle.wl_objects.specs.declared.writing.WordsMessage.{WordsMessage}
use Rattle.wl_objects.specs.declared.argument.Arg.TheVariants as args
use Rattle.wl_object_map.specs.declared.object.Object.{Object}
use Rattle.wl_object_map.specs.declared.object.Entry.{Entry}
use Rattle.wl_objects.specs.Reading.{has_required_iface, iface_of}
use Rattle.wl_object_map.specs.View.{lives}

-- an argument of a call: an object or null, a new object that the call makes, a descriptor's token
abbrev pub Given : Type 0
Given = Shape (Option Object) (Unit {0}) ℕ

-- a text that a string can contain
abbrev pub has_no_nul : List ℕ → Bool
has_no_nul text = not (has_nul text)

abbrev pub text_suits : Bool → Option (List ℕ) → Bool
text_suits null None = null
text_suits null (Some text) = has_no_nul text

abbrev pub object_suits : Bool → Option Object → Bool
object_suits null None = null
object_suits null (Some object) = true

-- Whether an argument has the kind: null only if allowed, and no string has a byte 0.
abbrev pub suits : Kind → Given → Bool
suits kinds.Int (Int z) = true
suits kinds.Uint (Uint n) = true
suits kinds.Fixed (Fixed z) = true
suits (kinds.Str null) (Str text) = text_suits null text
suits (kinds.Obj null iface) (Obj object) = object_suits null object
suits (kinds.New (Some iface)) (New x) = true
suits (kinds.New None) (NewNamed iface version x) = has_no_nul iface
suits (kinds.NewByServer iface) (New x) = true
suits kinds.Array (Array bytes) = true
suits kinds.Fd (Fd token) = true
suits _ _ = false

-- a number is given, and a number of that kind is asked for
pub data IsNumberGiven : Kind → Given → Type 0 where
  int_given : {z : ℤ} → IsNumberGiven kinds.Int (Int z)
  uint_given : {n : ℕ} → IsNumberGiven kinds.Uint (Uint n)
  fixed_given : {z : ℤ} → IsNumberGiven kinds.Fixed (Fixed z)

-- The index of the first argument of the wrong kind; if the numbers of arguments differ and all
-- before suit, the smaller number.
abbrev pub wrong_place : ℕ → List Kind → List Given → Option ℕ
wrong_place place [] [] = None
wrong_place place [] (given ∷ others) = Some place
wrong_place place (kind ∷ ks) [] = Some place
wrong_place place (kind ∷ ks) (given ∷ others) =
    if suits kind given then wrong_place (suc place) ks others else Some place

-- whether the row is live and has that birth
abbrev pub is_live_as : ℕ → Option Entry → Bool
is_live_as birth None = false
is_live_as birth (Some entry) = nat_eq entry.birth birth && lives entry.state

abbrev pub row_is_of : Option Iface → Option Entry → Bool
row_is_of iface None = false
row_is_of iface (Some entry) = has_required_iface iface entry

-- whether an object with this row can be named: it is live and has the required interface
abbrev pub names_one : Option Iface → Object → Option Entry → Bool
names_one iface object row = is_live_as object.birth row && row_is_of iface row

-- whether an argument names no object, or one that can be named
abbrev pub can_name : (ℕ → Option Entry) → Kind → Given → Bool
can_name rows kind (Obj (Some object)) = names_one (iface_of kind) object (rows object.id)
can_name rows kind _ = true

-- The index of the first object that is not live or has another interface.
abbrev pub lost_place : (ℕ → Option Entry) → ℕ → List Kind → List Given → Option ℕ
lost_place rows place (kind ∷ ks) (given ∷ others) =
    if can_name rows kind given then lost_place rows (suc place) ks others else Some place
lost_place rows place _ _ = None

-- ---- the message

abbrev pub id_of : Option Object → ℕ
id_of None = 0
id_of (Some object) = object.id

-- an argument on the wire, given the new object's id
abbrev pub wired : ℕ → Given → Argument
wired id given = reshaped id_of (λ _. id) (λ _. tt) given

abbrev pub spelled : List Argument → List ℕ
spelled [] = []
spelled (value ∷ values) = canonical value ++ spelled values

-- the length of a message in bytes
abbrev pub message_len : List Argument → ℕ
message_len [] = 8
message_len (value ∷ values) = spelled_len value + message_len values

-- the message with these arguments, each in its canonical spelling
abbrev pub message_bytes : ℕ → ℕ → List Argument → List ℕ
message_bytes object opcode values =
    header_bytes (record { object = object; size = message_len values; opcode = opcode })
    ++ spelled values

-- each value has a spelling
abbrev pub EachFits : List Argument → Type 0
EachFits [] = Unit {0}
EachFits (value ∷ values) = Fits value × EachFits values

-- the arguments of wl_registry.bind
abbrev pub bind_values : ℕ → List ℕ → ℕ → ℕ → List Argument
bind_values name iface version id = Uint name ∷ NewNamed iface version id ∷ []

-- the arguments of wl_display.error
abbrev pub error_values : ℕ → ℕ → List ℕ → List Argument
error_values object code text = Obj object ∷ Uint code ∷ Str (Some text) ∷ []

-- the arguments of wl_registry.global
abbrev pub global_values : ℕ → List ℕ → ℕ → List Argument
global_values name iface version = Uint name ∷ Str (Some iface) ∷ Uint version ∷ []

-- the tokens of a call, in order
abbrev pub tokens_of : List Given → List ℕ
tokens_of [] = []
tokens_of (Fd token ∷ given) = token ∷ tokens_of given
tokens_of (_ ∷ given) = tokens_of given

-- ---- a call's arguments, apart from where they lie in memory

abbrev pub given_of : Arg → Given
given_of (args.Int z) = Int z
given_of (args.Uint n) = Uint n
given_of (args.Fixed z) = Fixed (units z)
given_of (args.Str None) = Str None
given_of (args.Str (Some text)) = Str (Some text.now)
given_of (args.Obj object) = Obj object
given_of args.New = New tt
given_of (args.Array bytes) = Array bytes.now
given_of (args.Fd token) = Fd token

abbrev pub given : List Arg → List Given
given list = map given_of list

-- the arguments of a call on the wire, given the new object's id
abbrev pub on_wire : ℕ → List Arg → List Argument
on_wire id list = map (wired id) (given list)

-- the message made from a call
abbrev pub call_message : CallMessage → List ℕ
call_message call = message_bytes call.object call.opcode (on_wire call.new_id call.args.now)

-- that message has a spelling, and `len` is its length
pub record CallFits (call : CallMessage) : Type 0 where
  pub opcode : call.opcode < 65536
  pub fits : EachFits (on_wire call.new_id call.args.now)
  pub len : call.len ≡ message_len (on_wire call.new_id call.args.now)
  pub short : call.len ≤ 65535

-- the same for a bind
abbrev pub values_of_bind : BindMessage → List Argument
values_of_bind bind = bind_values bind.name bind.iface.now bind.version bind.id

abbrev pub bind_message : BindMessage → List ℕ
bind_message bind = message_bytes bind.registry 0 (values_of_bind bind)

pub record BindFits (bind : BindMessage) : Type 0 where
  pub fits : EachFits (values_of_bind bind)
  pub short : message_len (values_of_bind bind) ≤ 65535

-- the interface of the object that a call makes: that of the signature's new object
abbrev pub call_makes : List Kind → Option Iface
call_makes [] = None
call_makes (kinds.New (Some iface) ∷ ks) = Some iface
call_makes (kinds.NewByServer iface ∷ ks) = Some iface
call_makes (_ ∷ ks) = call_makes ks

-- The measure of a call's arguments that are not refused: the length of its message in bytes, its
-- number of tokens, and the interface of the object that it makes.
pub record IsMeasured (ks : List Kind) (list : List Arg) (limit : ℕ) (m : Measured) : Type 0 where
  pub right : wrong_place 0 ks (given list) ≡ None
  pub len : m.len ≡ message_len (on_wire 0 list)
  pub short : m.len ≤ limit
  pub tokens : m.tokens ≡ length (tokens_of (given list))
  pub makes : m.makes ≡ call_makes ks

-- ---- a call whose arguments are numbers alone, given as their words

-- what a word is for a kind: the number for which the kind asks; for a kind that asks for none, an
-- unsigned number, which does not suit it
abbrev pub number_by : Kind → ℕ → Arg
number_by kinds.Int word = args.Int (signed word)
number_by kinds.Fixed word = args.Fixed (record { parts = signed word })
number_by _ word = args.Uint word

-- what words are for these kinds, each at its place; beyond the kinds, unsigned numbers
abbrev pub numbers_by : List Kind → List ℕ → List Arg
numbers_by ks [] = []
numbers_by [] (word ∷ words) = args.Uint word ∷ numbers_by [] words
numbers_by (kind ∷ ks) (word ∷ words) = number_by kind word ∷ numbers_by ks words

-- the words as unsigned numbers, on the wire
abbrev pub words_on_wire : List ℕ → List Argument
words_on_wire words = on_wire 0 (numbers_by [] words)

-- the message with these words as its arguments
abbrev pub words_message : WordsMessage → List ℕ
words_message m = message_bytes m.object m.opcode (words_on_wire m.words.now)

-- its opcode and its length fit in a header
pub record WordsFit (m : WordsMessage) : Type 0 where
  pub opcode : m.opcode < 65536
  pub short : message_len (words_on_wire m.words.now) ≤ 65535
