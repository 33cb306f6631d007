-- Messages as they are meant: they name objects, not just ids.
use Rattle.std.specs.Prelude.{ℕ, zero, suc, ◌<◌, Bool, true, false, ◌&&◌, nat_eq, List, []}
use Rattle.std.specs.Prelude.{◌∷◌, ◌++◌, map, Option, Some, None, option_map}
use Rattle.wl_wire.specs.declared.kind.Iface.{Iface}
use Rattle.wl_sigs.specs.Destroys.{Destroys}
use Rattle.wl_sigs.specs.Destroys.TheVariants.{Nothing, Target, Arg as ends_arg}
use Rattle.wl_wire.specs.Argument.{Argument, Shape, reshaped, Uint, Obj, New, NewNamed, Fd}
use Rattle.wl_object_map.specs.declared.object.Entry.{Entry}
use Rattle.wl_object_map.specs.declared.object.Maker.{Maker}
use Rattle.wl_object_map.specs.declared.object.Maker.TheVariants.{Client, Server}
use Rattle.wl_object_map.specs.declared.object.State.TheVariants as states
use Rattle.wl_object_map.specs.Objects.{maker_of}
use Rattle.wl_message.specs.Outgoing as boxes
use Rattle.wl_objects.specs.Writing.{message_bytes}
use Rattle.wl_objects.specs.Messages.{or_else}

-- the identity of an object: the end that made it, and its number among all that this end made
pub record Birth : Type 0 where
  pub maker : Maker
  pub number : ℕ

-- the client's birth with this number: its births begin at 0, with wl_display
abbrev pub client_birth : ℕ → Birth
client_birth number = record { maker = Client; number = number }

-- the server's birth with this number: its births begin at 1
abbrev pub server_birth : ℕ → Birth
server_birth number = record { maker = Server; number = number }

abbrev pub same_maker : Maker → Maker → Bool
same_maker Client Client = true
same_maker Server Server = true
same_maker _ _ = false

abbrev pub same_birth : Birth → Birth → Bool
same_birth b c = same_maker b.maker c.maker && nat_eq b.number c.number

-- The birth's number is below that of its maker's next birth.
abbrev pub IsAmongFirst : (Maker → ℕ) → Birth → Type 0
IsAmongFirst births b = b.number < births b.maker

-- an object as both ends mean it: its birth, its interface and its version
pub record Born : Type 0 where
  pub birth : Birth
  pub iface : Iface
  pub version : ℕ

-- an object on the wire and as it is meant
pub record Known : Type 0 where
  pub id : ℕ
  pub born : Born

-- an argument, with O for objects: an object or none, a new object, a descriptor's token
abbrev pub Arg : Type 0 → Type 0
Arg O = Shape (Option O) O ℕ

-- a message: its target, its opcode, its arguments, and the object that it destroys, if any
pub record Message (O : Type 0) : Type 0 where
  pub target : O
  pub opcode : ℕ
  pub args : List (Arg O)
  pub ends : Option O

-- what comes to the client: an event, or the delete of an object
pub data Coming (O : Type 0) : Type 0 where
  Event : Message O → Coming O
  Delete : O → Coming O

-- ---- the same message with its objects renamed

abbrev pub rearg : {A B : Type 0} → (A → B) → Arg A → Arg B
rearg f a = reshaped (option_map f) f (λ t. t) a

abbrev pub renamed : {A B : Type 0} → (A → B) → Message A → Message B
renamed f m = record {
  target = f m.target;
  opcode = m.opcode;
  args = map (rearg f) m.args;
  ends = option_map f m.ends;
}

abbrev pub recoming : {A B : Type 0} → (A → B) → Coming A → Coming B
recoming f (Event m) = Event (renamed f m)
recoming f (Delete x) = Delete (f x)

abbrev pub born_of : Known → Born
born_of x = x.born

abbrev pub birth_of : Born → Birth
birth_of x = x.birth

-- ---- what a message names

-- the object that an argument names
abbrev pub objects_in_arg : {O : Type 0} → Arg O → List O
objects_in_arg (Obj (Some x)) = x ∷ []
objects_in_arg _ = []

abbrev pub objects : {O : Type 0} → List (Arg O) → List O
objects [] = []
objects (a ∷ more) = objects_in_arg a ++ objects more

-- the object that the argument at an index names
abbrev pub object_at : {O : Type 0} → List (Arg O) → ℕ → Option O
object_at [] place = None
object_at (Obj (Some x) ∷ more) zero = Some x
object_at (_ ∷ more) zero = None
object_at (a ∷ more) (suc place) = object_at more place

-- the object that a message destroys, according to its signature
abbrev pub ended_by : {O : Type 0} → Destroys → O → List (Arg O) → Option O
ended_by Nothing target args = None
ended_by Target target args = Some target
ended_by (ends_arg place) target args = object_at args place

-- the object that an argument makes
abbrev pub new_object_in : {O : Type 0} → Arg O → Option O
new_object_in (New x) = Some x
new_object_in (NewNamed iface version x) = Some x
new_object_in _ = None

-- the object that a message makes
abbrev pub made_in : {O : Type 0} → List (Arg O) → Option O
made_in [] = None
made_in (a ∷ more) = or_else (new_object_in a) (made_in more)

-- the token of an argument
abbrev pub token_in : {O : Type 0} → Arg O → List ℕ
token_in (Fd token) = token ∷ []
token_in _ = []

abbrev pub tokens : {O : Type 0} → List (Arg O) → List ℕ
tokens [] = []
tokens (a ∷ more) = token_in a ++ tokens more

-- ---- the message on the wire

abbrev pub known_id : Known → ℕ
known_id x = x.id

abbrev pub id_or_null : Option Known → ℕ
id_or_null None = 0
id_or_null (Some x) = x.id

-- an argument on the wire: objects by their ids
abbrev pub wire : Arg Known → Argument
wire a = reshaped id_or_null known_id (λ _. tt) a

-- the bytes in the canonical spelling, and the tokens
abbrev pub spelled_meant : Message Known → boxes.QueuedMessage
spelled_meant m = boxes.queued (message_bytes m.target.id m.opcode (map wire m.args))
    (tokens m.args)

-- a delete is wl_display.delete_id
abbrev pub spelled_coming : Coming Known → boxes.QueuedMessage
spelled_coming (Event m) = spelled_meant m
spelled_coming (Delete x) = boxes.queued (message_bytes 1 1 (Uint x.id ∷ [])) []

-- ---- the row of an object

-- the row of a live object
abbrev pub live_entry : Born → Entry
live_entry x = record {
  birth = x.birth.number;
  iface = x.iface;
  version = x.version;
  state = states.Live;
}

-- the object of a row with this id; the id's range says whether the client or the server made it
abbrev pub born_of_entry : ℕ → Entry → Born
born_of_entry id e = record {
  birth = record { maker = maker_of id; number = e.birth };
  iface = e.iface;
  version = e.version;
}
