-- What a table text says, as in docs/FORMATS.md ("Tables as text").
use Rattle.std.specs.Prelude.{◌≡◌, ◌≢◌, ℕ, ◌+◌, ◌<◌, ◌≤◌, List, [], ◌∷◌, ◌++◌, length, codes}
use Rattle.std.specs.Prelude.{Bool, true, false, Some, None}
use Rattle.std.specs.List.{All}
use Rattle.std.specs.Str.Lines.{lines}
use Rattle.std.specs.Str.Parse.{AllDigits, digits_value}
use Rattle.wl_text.specs.Lines.{IsSkipped}
use Rattle.wl_text.specs.declared.written.BareKind.{BareKind}
use Rattle.wl_text.specs.declared.written.BareKind.TheVariants as bare
use Rattle.wl_text.specs.Text.{WrittenKind, WrittenMessage, WrittenInterface, Tail}
use Rattle.wl_text.specs.Text.{needs_interface, takes_interface, with_kinds}

-- a name: one or more bytes other than space, ( and )
pub record IsTextName (name : List ℕ) : Type 0 where
  pub some : 0 < length name
  pub no_space : All (λ byte. byte ≢ 32) name
  pub no_open : All (λ byte. byte ≢ 40) name
  pub no_close : All (λ byte. byte ≢ 41) name

-- a number: 1 to 10 decimal digits, with a value of at most 4,294,967,295
pub record SpellsNumber (digits : List ℕ) (number : ℕ) : Type 0 where
  pub some : 1 ≤ length digits
  pub few : length digits ≤ 10
  pub digit : AllDigits 10 digits
  pub value : digits_value 10 digits ≡ number
  pub small : number ≤ 4294967295

-- the letters for each kind of argument
pub data SpellsKind (letters : List ℕ) (kind : BareKind) : Type 0 where
  int : letters ≡ codes "i" → kind ≡ bare.Int → SpellsKind letters kind
  uint : letters ≡ codes "u" → kind ≡ bare.Uint → SpellsKind letters kind
  fixed : letters ≡ codes "f" → kind ≡ bare.Fixed → SpellsKind letters kind
  string : letters ≡ codes "s" → kind ≡ bare.Str false → SpellsKind letters kind
  null_string : letters ≡ codes "?s" → kind ≡ bare.Str true → SpellsKind letters kind
  array : letters ≡ codes "a" → kind ≡ bare.Array → SpellsKind letters kind
  descriptor : letters ≡ codes "h" → kind ≡ bare.Fd → SpellsKind letters kind
  object : letters ≡ codes "o" → kind ≡ bare.Obj false → SpellsKind letters kind
  null_object : letters ≡ codes "?o" → kind ≡ bare.Obj true → SpellsKind letters kind
  new_id : letters ≡ codes "n" → kind ≡ bare.New → SpellsKind letters kind
  new_by_server : letters ≡ codes "N" → kind ≡ bare.NewByServer → SpellsKind letters kind

-- The word spells the argument. Its letters stand alone, unless the kind needs an interface; or,
-- for an object or a new object, the name of an interface follows in brackets.
pub data SpellsArgument (word : List ℕ) (argument : WrittenKind) : Type 0 where
  alone : SpellsKind word argument.kind → needs_interface argument.kind ≡ false
      → argument.iface ≡ None → SpellsArgument word argument
  named : (letters name : List ℕ) → SpellsKind letters argument.kind
      → takes_interface argument.kind ≡ true → IsTextName name → argument.iface ≡ Some name
      → word ≡ letters ++ 40 ∷ (name ++ 41 ∷ []) → SpellsArgument word argument

-- a tail without arguments
abbrev pub tail_with : Bool → ℕ → Tail
tail_with destroys since = record { kinds = []; destroys = destroys; since = since }

-- The rest of a line after a message's name: its arguments, each after a space; D if the message
-- destroys its target; @ and its since number, or nothing for 1.
pub data SpellsTail : List ℕ → Tail → Type 0 where
  ends : SpellsTail [] (tail_with false 1)
  destroys : SpellsTail (codes " D") (tail_with true 1)
  since : {digits : List ℕ} {number : ℕ}
      → SpellsNumber digits number → SpellsTail (codes " @" ++ digits) (tail_with false number)
  destroys_since : {digits : List ℕ} {number : ℕ}
      → SpellsNumber digits number → SpellsTail (codes " D @" ++ digits) (tail_with true number)
  argument : {word rest : List ℕ} {kind : WrittenKind} {tail : Tail}
      → SpellsArgument word kind → SpellsTail rest tail
      → SpellsTail (32 ∷ (word ++ rest)) (with_kinds (kind ∷ []) tail)

-- the word that begins a message's line, for each side
abbrev pub side_word : Bool → List ℕ
side_word true = codes "request"
side_word false = codes "event"

-- the part of a message's line after its name
abbrev pub tail_in : WrittenMessage → Tail
tail_in m = record { kinds = m.kinds; destroys = m.destroys; since = m.since }

-- The line declares this message: the word of its side, a space, its name, and its tail.
pub record IsMessageLine (line : List ℕ) (is_request : Bool) (message : WrittenMessage)
    : Type 0 where
  pub rest : List ℕ
  pub whole : line ≡ side_word is_request ++ 32 ∷ (message.name ++ rest)
  pub named : IsTextName message.name
  pub tail : SpellsTail rest (tail_in message)

-- the word that begins an interface's line, or the line that extends one
abbrev pub heading : Bool → List ℕ
heading false = codes "interface"
heading true = codes "extend"

-- The line declares an interface of this name and version, or extends the interface of this name to
-- this version: its first word, then name and version, each after a space.
pub record IsInterfaceLine (line : List ℕ) (extends : Bool) (name : List ℕ) (version : ℕ) : Type 0
  where
    pub digits : List ℕ
    pub whole : line ≡ heading extends ++ 32 ∷ (name ++ 32 ∷ digits)
    pub named : IsTextName name
    pub number : SpellsNumber digits version

-- Lines numbered from n declare these requests and events for the interface above them, and then
-- these interfaces, all in order, each with its line number. Every line that is not skipped
-- declares one of them.
pub data Say : ℕ → List (List ℕ) → List WrittenMessage → List WrittenMessage
    → List WrittenInterface → Type 0 where
  nothing : {n : ℕ} → Say n [] [] [] []
  skipped : {n : ℕ} {line : List ℕ} {more : List (List ℕ)} {requests events : List WrittenMessage}
      {interfaces : List WrittenInterface}
      → IsSkipped line → Say (n + 1) more requests events interfaces
      → Say n (line ∷ more) requests events interfaces
  request : {n : ℕ} {line : List ℕ} {more : List (List ℕ)} {m : WrittenMessage}
      {requests events : List WrittenMessage} {interfaces : List WrittenInterface}
      → IsMessageLine line true m → m.line ≡ n → Say (n + 1) more requests events interfaces
      → Say n (line ∷ more) (m ∷ requests) events interfaces
  event : {n : ℕ} {line : List ℕ} {more : List (List ℕ)} {m : WrittenMessage}
      {requests events : List WrittenMessage} {interfaces : List WrittenInterface}
      → IsMessageLine line false m → m.line ≡ n → Say (n + 1) more requests events interfaces
      → Say n (line ∷ more) requests (m ∷ events) interfaces
  interface : {n : ℕ} {line : List ℕ} {more : List (List ℕ)} {i : WrittenInterface}
      {interfaces : List WrittenInterface}
      → IsInterfaceLine line i.extends i.name i.version → i.line ≡ n
      → Say (n + 1) more i.requests i.events interfaces
      → Say n (line ∷ more) [] [] (i ∷ interfaces)

-- The lines list these interfaces with their messages; no message comes before the first interface.
abbrev pub LinesList : List (List ℕ) → List WrittenInterface → Type 0
LinesList all written = Say 1 all [] [] written

-- The text lists these interfaces. Each line ends with a line feed, which the last may lack. One
-- carriage return before a line feed is not part of its line.
abbrev pub TableText : List ℕ → List WrittenInterface → Type 0
TableText text written = LinesList (lines text) written

-- The line may follow lines that list these interfaces: it has one of the forms, and if it is a
-- message, there is an interface before it.
pub data MayStand (written : List WrittenInterface) (line : List ℕ) : Type 0 where
  skips : IsSkipped line → MayStand written line
  opens : (extends : Bool) (name : List ℕ) (version : ℕ) → IsInterfaceLine line extends name version
      → MayStand written line
  adds : (is_request : Bool) (m : WrittenMessage) → IsMessageLine line is_request m
      → 0 < length written → MayStand written line

-- Line n is the first bad line of the text: the lines before it list interfaces, and it may not
-- follow them. Lines are counted from 1, including skipped ones.
pub record IsFirstBadLine (text : List ℕ) (n : ℕ) : Type 0 where
  pub before : List (List ℕ)
  pub line : List ℕ
  pub after : List (List ℕ)
  pub written : List WrittenInterface
  pub whole : lines text ≡ before ++ line ∷ after
  pub place : n ≡ length before + 1
  pub good : LinesList before written
  pub bad : ¬ MayStand written line
