-- The arguments of a message after parsing: records that borrow nothing and refer to the body by
-- position.
use Rattle.std.specs.Prelude.{◌≡◌, ℕ, ◌+◌, ◌<◌, ◌^◌, if◌then◌else◌, Bool, true, false}
use Rattle.std.specs.Prelude.{List, [], ◌∷◌, ◌++◌, length, map, take, drop, slice_index_or}
use Rattle.std.specs.Prelude.{Option, Some, None}
use Rattle.std.specs.Borrow.{Bor}
use Rattle.std.specs.declared.result.Result.{Result}
use Rattle.std.specs.declared.result.Result.TheVariants.{Ok, Err}
use Rattle.wl_wire.specs.Argument.{Argument, units, reshaped, Int, Uint, Fixed, Str, Obj, New}
use Rattle.wl_wire.specs.Argument.{NewNamed, Array, Fd}
use Rattle.wl_objects.specs.declared.error.Fault.{Fault}
use Rattle.wl_objects.specs.declared.argument.Named.{Named}
use Rattle.wl_objects.specs.declared.argument.Named.TheVariants as named_as
use Rattle.wl_objects.specs.declared.argument.GotRef.{GotRef}
use Rattle.wl_objects.specs.declared.argument.GotRef.TheVariants as refs
use Rattle.wl_objects.specs.declared.parsed.ParsedArg.{ParsedArg}
use Rattle.wl_objects.specs.declared.parsed.ParsedArg.TheVariants as parsed_as
use Rattle.wl_objects.specs.declared.args.Args.{Args}
use Rattle.wl_objects.specs.Reading.{Reader, Reported, in_state, is_descriptor, reported_argument}
use Rattle.wl_objects.specs.Reading.{reports_of}

-- at most `len` bytes from `start`
abbrev pub body_part : List ℕ → ℕ → ℕ → List ℕ
body_part bytes start len = take len (drop start bytes)

-- an argument as spelled
abbrev pub parsed_argument : List ℕ → ParsedArg → Argument
parsed_argument body parsed_as.Null = Str None
parsed_argument body (parsed_as.Int z) = Int z
parsed_argument body (parsed_as.Uint n) = Uint n
parsed_argument body (parsed_as.Fixed z) = Fixed (units z)
parsed_argument body (parsed_as.Str len start) = Str (Some (body_part body start len))
parsed_argument body (parsed_as.NoObject id) = Obj id
parsed_argument body (parsed_as.Object id birth state) = Obj id
parsed_argument body (parsed_as.New id) = New id
parsed_argument body (parsed_as.Bound len start version id) = NewNamed (body_part body start len)
    version id
parsed_argument body (parsed_as.Array len start) = Array (body_part body start len)
parsed_argument body (parsed_as.Fd place) = Fd tt

-- whether an argument is a number
abbrev pub is_number : ParsedArg → Bool
is_number (parsed_as.Int z) = true
is_number (parsed_as.Uint n) = true
is_number (parsed_as.Fixed z) = true
is_number _ = false

-- An argument as reported, given the birth of a new object; a descriptor by the index of its token
-- among the message's.
abbrev pub placed_of : List ℕ → ℕ → ParsedArg → Reported
placed_of body birth parsed_as.Null = Str None
placed_of body birth (parsed_as.Int z) = Int z
placed_of body birth (parsed_as.Uint n) = Uint n
placed_of body birth (parsed_as.Fixed z) = Fixed (units z)
placed_of body birth (parsed_as.Str len start) = Str (Some (body_part body start len))
placed_of body birth (parsed_as.NoObject id) = Obj named_as.Null
placed_of body birth (parsed_as.Object id held state) =
    Obj (in_state state (record { id = id; birth = held }))
placed_of body birth (parsed_as.New id) = New (record { id = id; birth = birth })
placed_of body birth (parsed_as.Bound len start version id) =
    NewNamed (body_part body start len) version (record { id = id; birth = birth })
placed_of body birth (parsed_as.Array len start) = Array (body_part body start len)
placed_of body birth (parsed_as.Fd place) = Fd place

-- the object that an argument names; null if it names none
abbrev pub parsed_object : Option ParsedArg → Named
parsed_object (Some (parsed_as.Object id birth state)) =
    in_state state (record { id = id; birth = birth })
parsed_object _ = named_as.Null

-- the token at an index; 0 if there is none
abbrev pub token_at : List ℕ → ℕ → ℕ
token_at tokens place = slice_index_or tokens place 0

-- a descriptor by its token instead of by its index
abbrev pub with_token : List ℕ → Reported → Reported
with_token tokens x = reshaped (λ object. object) (λ new. new) (token_at tokens) x

abbrev pub reported_of : List ℕ → ℕ → List ℕ → ParsedArg → Reported
reported_of body birth tokens parsed = with_token tokens (placed_of body birth parsed)

-- the arguments of a message as spelled
abbrev pub spelled_in : List ℕ → List ParsedArg → List Argument
spelled_in body parsed = map (parsed_argument body) parsed

-- the arguments of a message as reported, given its tokens
abbrev pub reported_in : List ℕ → ℕ → List ℕ → List ParsedArg → List Reported
reported_in body birth tokens parsed = map (reported_of body birth tokens) parsed

-- The parsed records represent these values: they are spelled and reported so, whatever tokens the
-- message has.
pub record AreParsed (r : Reader) (body : List ℕ) (parsed : List ParsedArg) (values : List Argument)
    : Type 0 where
  pub spelled : spelled_in body parsed ≡ values
  pub reported : (tokens : List ℕ)
      → reported_in body r.birth tokens parsed ≡ reports_of r tokens values

-- ---- the result of parsing

-- an argument as spelled, and as reported
abbrev pub ArgumentView : Type 0
ArgumentView = Argument × Reported

abbrev pub view_of_parsed : List ℕ → ℕ → ParsedArg → ArgumentView
view_of_parsed body birth parsed = (parsed_argument body parsed, placed_of body birth parsed)

abbrev pub views_of_parsed : List ℕ → ℕ → List ParsedArg → List ArgumentView
views_of_parsed body birth parsed = map (view_of_parsed body birth) parsed

-- the reader's view of an argument with `place` descriptors before it
abbrev pub argument_view : Reader → ℕ → Argument → ArgumentView
argument_view r place value = (value, reported_argument r place value)

-- how many descriptors come before what follows an argument
abbrev pub place_after : Argument → ℕ → ℕ
place_after value place = if is_descriptor value then place + 1 else place

abbrev pub argument_views : Reader → ℕ → List Argument → List ArgumentView
argument_views r place [] = []
argument_views r place (value ∷ values) =
    argument_view r place value ∷ argument_views r (place_after value place) values

-- the reader's view of arguments that were read, and the bytes after them
abbrev pub views_outcome : Reader → ℕ → Result (List Argument × List ℕ) Fault
    → Result (List ArgumentView × List ℕ) Fault
views_outcome r place (Err fault) = Err fault
views_outcome r place (Ok found) = Ok (argument_views r place found.0, found.1)

abbrev pub view_outcome : Reader → ℕ → Argument → Option Fault → Result ArgumentView Fault
view_outcome r place value None = Ok (argument_view r place value)
view_outcome r place value (Some fault) = Err fault

-- the parsed records as spelled, and the bytes found after them
abbrev pub parsed_body_outcome : List ℕ → List ParsedArg → Result (Bor (List ℕ)) Fault
    → Result (List Argument × List ℕ) Fault
parsed_body_outcome body parsed (Err fault) = Err fault
parsed_body_outcome body parsed (Ok rest) = Ok (spelled_in body parsed, rest.now)

abbrev pub parsed_view_outcome : List ℕ → ℕ → Result ParsedArg Fault → Result ArgumentView Fault
parsed_view_outcome body birth (Err fault) = Err fault
parsed_view_outcome body birth (Ok parsed) = Ok (view_of_parsed body birth parsed)

-- more arguments, after others
abbrev pub views_prepended : List ArgumentView → Result (List ArgumentView × List ℕ) Fault
    → Result (List ArgumentView × List ℕ) Fault
views_prepended front (Err fault) = Err fault
views_prepended front (Ok found) = Ok (front ++ found.0, found.1)

-- the bytes of a text follow the first word
pub record BytesFollowLength (bytes text : List ℕ) : Type 0 where
  pub same : text ≡ take (length text) (drop 4 bytes)
  pub fits : length text < 2 ^ 32

abbrev pub TextLiesBehind : List ℕ → Argument → Type 0
TextLiesBehind bytes (Str (Some text)) = BytesFollowLength bytes text
TextLiesBehind bytes (NewNamed iface version id) = BytesFollowLength bytes iface
TextLiesBehind bytes (Array array) = BytesFollowLength bytes array
TextLiesBehind bytes _ = Unit {0}

-- ---- what is borrowed

-- the value of a borrowed argument of a report
abbrev pub lent_got : GotRef → Reported
lent_got (refs.Int z) = Int z
lent_got (refs.Uint n) = Uint n
lent_got (refs.Fixed z) = Fixed (units z)
lent_got (refs.Str None) = Str None
lent_got (refs.Str (Some text)) = Str (Some text.now)
lent_got (refs.Obj object) = Obj object
lent_got (refs.New object) = New object
lent_got (refs.Bound iface version object) = NewNamed iface.now version object
lent_got (refs.Array bytes) = Array bytes.now
lent_got (refs.Fd token) = Fd token

-- the arguments not yet taken out
abbrev pub seen_args : Args → List Reported
seen_args a = reported_in a.body.now a.birth a.tokens.now a.left.now
