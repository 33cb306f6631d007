-- Tables as text. Each line that is not skipped has one of these forms:
--
--   "interface " name " " number
--   "extend " name " " number
--   side " " name *( " " argument ) [ " D" ] [ " @" number ]
--
-- A side is "request" or "event". A message belongs to the nearest interface or extend line above
-- it.
use Rattle.std.specs.Prelude.{ℕ, ◌+◌, ◌-◌, ◌==◌, ◌&&◌, ◌||◌, not, nat_le, if◌then◌else◌, List, []}
use Rattle.std.specs.Prelude.{◌∷◌, ◌++◌, length, take, drop, codes, position, Bool, true, false}
use Rattle.std.specs.Prelude.{slice_index, bytes_eq, unwrap_or, Option, Some, None, option_and_then}
use Rattle.std.specs.Prelude.{option_map, Result, Ok, Err}
use Rattle.std.specs.List.{list_all}
use Rattle.std.specs.Option.{option_map_or}
use Rattle.wl_text.specs.declared.written.BareKind.{BareKind}
use Rattle.wl_text.specs.declared.written.BareKind.TheVariants as bare
use Rattle.wl_text.specs.Lines.{says_nothing, words}
use Rattle.wl_text.specs.Number.{number_of}

-- The kind of an argument as the text writes it: the kind without its interface, and the
-- interface's name if the text gives one.
pub record WrittenKind : Type 0 where
  pub kind : BareKind
  pub iface : Option (List ℕ)

-- a message, with the number of its line
pub record WrittenMessage : Type 0 where
  pub line : ℕ
  pub name : List ℕ
  pub since : ℕ
  pub kinds : List WrittenKind
  pub destroys : Bool

-- an interface or an extension of one, with its line number and the messages of the lines below it
pub record WrittenInterface : Type 0 where
  pub line : ℕ
  pub extends : Bool
  pub name : List ℕ
  pub version : ℕ
  pub requests : List WrittenMessage
  pub events : List WrittenMessage

-- a byte of a name: not space, ( or ). No line contains a line feed
abbrev pub is_text_byte : ℕ → Bool
is_text_byte byte = not (byte == 32) && not (byte == 40) && not (byte == 41)

-- a name: one or more such bytes
abbrev pub is_text_name : List ℕ → Bool
is_text_name name = not (length name == 0) && list_all is_text_byte name

-- the kind that letters stand for
abbrev pub kind_of : List ℕ → Option BareKind
kind_of letters =
    if bytes_eq letters (codes "i") then Some bare.Int
    else (if bytes_eq letters (codes "u") then Some bare.Uint
    else (if bytes_eq letters (codes "f") then Some bare.Fixed
    else (if bytes_eq letters (codes "s") then Some (bare.Str false)
    else (if bytes_eq letters (codes "?s") then Some (bare.Str true)
    else (if bytes_eq letters (codes "a") then Some bare.Array
    else (if bytes_eq letters (codes "h") then Some bare.Fd
    else (if bytes_eq letters (codes "o") then Some (bare.Obj false)
    else (if bytes_eq letters (codes "?o") then Some (bare.Obj true)
    else (if bytes_eq letters (codes "n") then Some bare.New
    else (if bytes_eq letters (codes "N") then Some bare.NewByServer
    else None))))))))))

-- whether an argument of the kind may name an interface
abbrev pub takes_interface : BareKind → Bool
takes_interface (bare.Obj null) = true
takes_interface bare.New = true
takes_interface bare.NewByServer = true
takes_interface _ = false

-- whether an argument of the kind must name an interface
abbrev pub needs_interface : BareKind → Bool
needs_interface bare.NewByServer = true
needs_interface _ = false

-- The argument of this kind, given the text after its letters: nothing, if the kind does not need
-- an interface, or a name in brackets.
abbrev pub bracketed : BareKind → List ℕ → Option WrittenKind
bracketed kind [] =
    if needs_interface kind then None else Some (record { kind = kind; iface = None })
bracketed kind (bracket ∷ tail) =
    let name = take (length tail - 1) tail in
    if takes_interface kind && nat_le 1 (length tail)
    && (slice_index tail (length tail - 1) == 41) && is_text_name name
    then Some (record { kind = kind; iface = Some name })
    else None

-- the argument that a word spells: its letters end before the first (, if there is one
abbrev pub written_kind_of : List ℕ → Option WrittenKind
written_kind_of word =
    let letters = unwrap_or (position (λ b. b == 40) word) (length word) in
    option_and_then (λ kind. bracketed kind (drop letters word)) (kind_of (take letters word))

-- the part of a line after a message's name: the arguments, whether it destroys its target, and the
-- since number
pub record Tail : Type 0 where
  pub kinds : List WrittenKind
  pub destroys : Bool
  pub since : ℕ

-- the number of a word "@" number
abbrev pub at_number : List ℕ → Option ℕ
at_number word =
    if length word == 0 then None
    else (if slice_index word 0 == 64 then number_of (drop 1 word) else None)

-- the since number that words spell: one word "@" number, or no word for 1
abbrev pub since_of : List (List ℕ) → Option ℕ
since_of [] = Some 1
since_of (word ∷ []) = at_number word
since_of (word ∷ next ∷ more) = None

-- the end of a tail, from the first word on that spells no argument: D if the message destroys its
-- target, and the since number
abbrev pub ending_of : List ℕ → List (List ℕ) → Option Tail
ending_of word more =
    if bytes_eq word (codes "D")
    then option_map (λ since.
    let tail : Tail = record { kinds = []; destroys = true; since = since } in tail)
    (since_of more)
    else option_map (λ since.
    let tail : Tail = record { kinds = []; destroys = false; since = since } in tail)
    (since_of (word ∷ more))

-- the same with more arguments in front
abbrev pub with_kinds : List WrittenKind → Tail → Tail
with_kinds kinds tail = record {
  kinds = kinds ++ tail.kinds;
  destroys = tail.destroys;
  since = tail.since;
}

-- the tail that begins with this argument, if its first word spells one, or else with its ending
abbrev pub tail_from : Option WrittenKind → Option Tail → Option Tail → Option Tail
tail_from (Some kind) more ending = option_map (with_kinds (kind ∷ [])) more
tail_from None more ending = ending

-- the tail that words spell
abbrev pub tail_of : List (List ℕ) → Option Tail
tail_of [] = Some (record { kinds = []; destroys = false; since = 1 })
tail_of (word ∷ more) = tail_from (written_kind_of word) (tail_of more) (ending_of word more)

-- the message in line n, from the words after its side
abbrev pub written_message_of : ℕ → List (List ℕ) → Option WrittenMessage
written_message_of n [] = None
written_message_of n (name ∷ more) =
    if is_text_name name
    then option_map (λ (tail : Tail). let message : WrittenMessage = record {
      line = n;
      name = name;
      since = tail.since;
      kinds = tail.kinds;
      destroys = tail.destroys;
    } in message) (tail_of more)
    else None

-- the interface in line n, from the words after "interface" or "extend"
abbrev pub interface_of : Bool → ℕ → List (List ℕ) → Option WrittenInterface
interface_of extends n (name ∷ digits ∷ []) =
    if is_text_name name
    then option_map (λ version. let interface : WrittenInterface = record {
      line = n;
      extends = extends;
      name = name;
      version = version;
      requests = [];
      events = [];
    } in interface) (number_of digits)
    else None
interface_of extends n _ = None

-- the interface with one more message, a request or an event
abbrev pub with_written_message : Bool → WrittenMessage → WrittenInterface → WrittenInterface
with_written_message true m i = record i { requests = i.requests ++ m ∷ [] }
with_written_message false m i = record i { events = i.events ++ m ∷ [] }

-- the interfaces with one more message in the last, if there is one
abbrev pub message_added : Bool → WrittenMessage → List WrittenInterface
    → Option (List WrittenInterface)
message_added is_request m [] = None
message_added is_request m (i ∷ []) = Some (with_written_message is_request m i ∷ [])
message_added is_request m (i ∷ j ∷ more) =
    option_map (λ all. i ∷ all) (message_added is_request m (j ∷ more))

-- the interfaces with what the words of line n declare, if they have a form
abbrev pub words_added : ℕ → List (List ℕ) → List WrittenInterface → Option (List WrittenInterface)
words_added n [] written = None
words_added n (word ∷ more) written =
    if bytes_eq word (codes "interface") || bytes_eq word (codes "extend")
    then option_map (λ i. written ++ i ∷ []) (interface_of (bytes_eq word (codes "extend")) n more)
    else (if bytes_eq word (codes "request") || bytes_eq word (codes "event")
    then option_and_then (λ m. message_added (bytes_eq word (codes "request")) m written)
    (written_message_of n more)
    else None)

-- the interfaces with what line n declares
abbrev pub line_added : ℕ → List ℕ → List WrittenInterface → Option (List WrittenInterface)
line_added n line written =
    if says_nothing line then Some written else words_added n (words line) written

-- The interfaces so far, followed by those that the lines list, in order; the first of the lines
-- has number n. If a line is bad, the first bad line instead: it has no form, or it is a message
-- before any interface.
abbrev pub interfaces_from : ℕ → List (List ℕ) → List WrittenInterface
    → Result (List WrittenInterface) ℕ
interfaces_from n [] written = Ok written
interfaces_from n (line ∷ more) written =
    option_map_or (λ all. interfaces_from (n + 1) more all) (line_added n line written) (Err n)
