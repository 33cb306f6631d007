-- A text lists the interfaces that are read from it, and no others.
use Rattle.std.proofs.Common.{◌≡◌, ℕ, ◌+◌, ◌<◌, Bool, true, false, List, [], ◌∷◌, ◌++◌, length}
use Rattle.std.proofs.Common.{refl, sym, ap, subst, ◌∙◌, Some, None, Option, append-nil}
use Rattle.std.proofs.Common.{append_assoc, arith}
use Rattle.std.specs.Prelude.{Ok, Err, ◌↔◌, option_map}
use Rattle.std.specs.Option.{option_map_or}
use Rattle.std.specs.Str.Lines.{lines}
use Rattle.wl_text.specs.Text.{WrittenMessage, WrittenInterface, with_written_message}
use Rattle.wl_text.specs.Text.{message_added, line_added, interfaces_from}
use Rattle.wl_text.specs.TableText.{IsMessageLine, IsInterfaceLine, Say, nothing, skipped}
use Rattle.wl_text.specs.TableText.{request, event, interface, TableText, MayStand, skips}
use Rattle.wl_text.specs.TableText.{opens, adds, IsFirstBadLine}
use Rattle.wl_text.proofs.Words.{added_last}
use Rattle.wl_text.proofs.TextLines.{opened, skipped_added, message_line_added}
use Rattle.wl_text.proofs.TextLines.{interface_line_added, LineSays, it_skips, it_opens}
use Rattle.wl_text.proofs.TextLines.{it_adds, it_fails, line_says}

-- an interface with more messages
abbrev with_more : WrittenInterface → List WrittenMessage → List WrittenMessage → WrittenInterface
with_more i requests events = record i { requests = i.requests ++ requests; events = i.events ++ events }

-- reading a line and those below it
listed_on : (n : ℕ) (line : List ℕ) (more : List (List ℕ)) (written : List WrittenInterface)
    (o : Option (List WrittenInterface)) → line_added n line written ≡ o
    → interfaces_from n (line ∷ more) written ≡ option_map_or (λ all. interfaces_from (n + 1) more all) o (Err n)
listed_on n line more written o is = ap (λ (x : Option (List WrittenInterface)). option_map_or
    (λ all. interfaces_from (n + 1) more all) x (Err n)) is

with_none : (i : WrittenInterface) → with_more i [] [] ≡ i
with_none i = rw (append-nil i.requests, append-nil i.events) refl

abbrev with_first : Bool → WrittenMessage → WrittenInterface → List WrittenMessage → List WrittenMessage
    → WrittenInterface
with_first true m i requests events = with_more i (m ∷ requests) events
with_first false m i requests events = with_more i requests (m ∷ events)

first_then : (side : Bool) (m : WrittenMessage) (i : WrittenInterface) (requests events : List WrittenMessage)
    → with_more (with_written_message side m i) requests events ≡ with_first side m i requests events
first_then true m i requests events = rw (append_assoc i.requests (m ∷ []) requests) refl
first_then false m i requests events = rw (append_assoc i.events (m ∷ []) events) refl

-- what lines declare is read: lines below an interface
pub said_below : {n : ℕ} {all : List (List ℕ)} {requests events : List WrittenMessage} {interfaces : List
    WrittenInterface} → Say n all requests events interfaces
    → (before : List WrittenInterface) (i : WrittenInterface)
    → interfaces_from n all (before ++ i ∷ []) ≡ Ok (before ++ with_more i requests events ∷ interfaces)
said_below nothing before i = ap (λ (x : WrittenInterface). Ok (before ++ x ∷ [])) (sym (with_none i))
said_below (skipped {n} {line} {more} skip rest) before i =
    listed_on n line more (before ++ i ∷ []) _ (skipped_added n line skip (before ++ i ∷ [])) ∙ said_below rest before i
said_below (request {n} {line} {more} {m} {requests} {events} {interfaces} said at rest) before i =
    listed_on n line more (before ++ i ∷ []) _ (message_line_added n line true m said at (before ++ i ∷ [])
    ∙ added_last true m before i)
    ∙ said_below rest before (with_written_message true m i)
    ∙ ap (λ (x : WrittenInterface). Ok (before ++ x ∷ interfaces)) (first_then true m i requests events)
said_below (event {n} {line} {more} {m} {requests} {events} {interfaces} said at rest) before i =
    listed_on n line more (before ++ i ∷ []) _ (message_line_added n line false m said at (before ++ i ∷ [])
    ∙ added_last false m before i)
    ∙ said_below rest before (with_written_message false m i)
    ∙ ap (λ (x : WrittenInterface). Ok (before ++ x ∷ interfaces)) (first_then false m i requests events)
said_below (interface {n} {line} {more} {i = j} {interfaces} said at rest) before i =
    listed_on n line more (before ++ i ∷ []) _ (interface_line_added j.extends n line j.name j.version said (before ++ i ∷ []))
    ∙ said_below rest (before ++ i ∷ []) (opened j.extends n j.name j.version)
    ∙ ap (λ (l : ℕ). Ok ((before ++ i ∷ []) ++ record j { line = l } ∷ interfaces)) (sym at)
    ∙ ap Ok (append_assoc before (i ∷ []) (j ∷ interfaces))
    ∙ ap (λ (x : WrittenInterface). Ok (before ++ x ∷ j ∷ interfaces)) (sym (with_none i))

-- the same for lines above every interface
pub said_first : {n : ℕ} {all : List (List ℕ)} {requests events : List WrittenMessage} {interfaces : List
    WrittenInterface} → Say n all requests events interfaces
    → requests ≡ [] → events ≡ [] → interfaces_from n all [] ≡ Ok interfaces
said_first nothing r e = refl
said_first (skipped {n} {line} {more} skip rest) r e =
    listed_on n line more [] _ (skipped_added n line skip []) ∙ said_first rest r e
said_first (request said at rest) r e = cc r
said_first (event said at rest) r e = cc e
said_first (interface {n} {line} {more} {i = j} {interfaces} said at rest) r e =
    listed_on n line more [] _ (interface_line_added j.extends n line j.name j.version said [])
    ∙ said_below rest [] (opened j.extends n j.name j.version)
    ∙ ap (λ (l : ℕ). Ok (record j { line = l } ∷ interfaces)) (sym at)

-- what is read is what the lines declare
record Below (n : ℕ) (all : List (List ℕ)) (before : List WrittenInterface) (i : WrittenInterface)
    (written : List WrittenInterface) : Type 0 where
  requests : List WrittenMessage
  events : List WrittenMessage
  interfaces : List WrittenInterface
  say : Say n all requests events interfaces
  is : written ≡ before ++ with_more i requests events ∷ interfaces

abbrev Reads : ℕ → List (List ℕ) → Type 0
Reads n all = (before : List WrittenInterface) (i : WrittenInterface) (written : List WrittenInterface)
    → interfaces_from n all (before ++ i ∷ []) ≡ Ok written → Below n all before i written

below_added : (n : ℕ) (line : List ℕ) (more : List (List ℕ)) (before : List WrittenInterface) (i : WrittenInterface)
    (written : List WrittenInterface)
    → (side : Bool) (m : WrittenMessage) → m.line ≡ n → IsMessageLine line side m
    → Below (n + 1) more before (with_written_message side m i) written → Below n (line ∷ more) before i written
below_added n line more before i written true m at said below = record {
  requests = m ∷ below.requests;
  events = below.events;
  interfaces = below.interfaces;
  say = request said at below.say;
  is = below.is ∙ ap (λ (x : WrittenInterface). before ++ x ∷ below.interfaces) (first_then true m i below.requests below.events);
}
below_added n line more before i written false m at said below = record {
  requests = below.requests;
  events = m ∷ below.events;
  interfaces = below.interfaces;
  say = event said at below.say;
  is = below.is ∙ ap (λ (x : WrittenInterface). before ++ x ∷ below.interfaces) (first_then false m i below.requests below.events);
}

below_opened : (extends : Bool) (n : ℕ) (line name : List ℕ) (version : ℕ) (more : List (List ℕ)) (before : List WrittenInterface)
    (i : WrittenInterface) (written : List WrittenInterface)
    → IsInterfaceLine line extends name version → Below (n + 1) more (before ++ i ∷ []) (opened extends n name version) written
    → Below n (line ∷ more) before i written
below_opened extends n line name version more before i written said below =
    let j : WrittenInterface = with_more (opened extends n name version) below.requests below.events in
    record {
      requests = [];
      events = [];
      interfaces = with_more (opened extends n name version) below.requests below.events ∷ below.interfaces;
      say = interface said refl below.say;
      is = below.is ∙ append_assoc before (i ∷ []) (j ∷ below.interfaces)
          ∙ ap (λ (x : WrittenInterface). before ++ x ∷ j ∷ below.interfaces) (sym (with_none i));
    }

below_line : (n : ℕ) (line : List ℕ) (more : List (List ℕ)) → LineSays n line → Reads (n + 1) more
    → Reads n (line ∷ more)
below_line n line more says reads = λ before i written is. elim says [
  | it_skips skip ↦
      let below = reads before i written (sym (listed_on n line more (before ++ i ∷ []) _
      (skipped_added n line skip (before ++ i ∷ []))) ∙ is) in
      record {
        requests = below.requests;
        events = below.events;
        interfaces = below.interfaces;
        say = skipped skip below.say;
        is = below.is;
      }
  | it_opens extends name version said ↦
      below_opened extends n line name version more before i written said
      (reads (before ++ i ∷ []) (opened extends n name version) written
      (sym (listed_on n line more (before ++ i ∷ []) _
      (interface_line_added extends n line name version said (before ++ i ∷ []))) ∙ is))
  | it_adds side m at said ↦
      below_added n line more before i written side m at said
      (reads before (with_written_message side m i) written
      (sym (listed_on n line more (before ++ i ∷ []) _
      (message_line_added n line side m said at (before ++ i ∷ []) ∙ added_last side m before i)) ∙ is))
  | it_fails fails ↦ let no : Err n ≡ Ok written =
      sym (listed_on n line more (before ++ i ∷ []) _ (fails (before ++ i ∷ []))) ∙ is in cc no
]

read_below : (n : ℕ) (all : List (List ℕ)) → Reads n all
read_below n [] = λ before i written is. record {
  requests = [];
  events = [];
  interfaces = [];
  say = nothing;
  is = let same : before ++ i ∷ [] ≡ written = cc is
      in sym same ∙ ap (λ (x : WrittenInterface). before ++ x ∷ []) (sym (with_none i));
}
read_below n (line ∷ more) = below_line n line more (line_says n line) (read_below (n + 1) more)

first_line : (n : ℕ) (line : List ℕ) (more : List (List ℕ)) (written : List WrittenInterface) → LineSays n line
    → (interfaces_from (n + 1) more [] ≡ Ok written → Say (n + 1) more [] [] written)
    → interfaces_from n (line ∷ more) [] ≡ Ok written → Say n (line ∷ more) [] [] written
first_line n line more written says rest is = elim says [
  | it_skips skip ↦ skipped skip (rest (sym (listed_on n line more [] _ (skipped_added n line skip [])) ∙ is))
  | it_opens extends name version said ↦
      let below = read_below (n + 1) more [] (opened extends n name version) written
      (sym (listed_on n line more [] _ (interface_line_added extends n line name version said [])) ∙ is) in
      subst (λ (w : List WrittenInterface). Say n (line ∷ more) [] [] w) (sym below.is) (interface said refl below.say)
  | it_adds side m at said ↦ let no : Err n ≡ Ok written =
      sym (listed_on n line more [] _ (message_line_added n line side m said at [])) ∙ is in cc no
  | it_fails fails ↦ let no : Err n ≡ Ok written = sym (listed_on n line more [] _ (fails [])) ∙ is in cc no
]

pub read_first : (n : ℕ) (all : List (List ℕ)) (written : List WrittenInterface) → interfaces_from n all [] ≡ Ok written
    → Say n all [] [] written
read_first n [] written is = let same : [] ≡ written = cc is
    in subst (λ (w : List WrittenInterface). Say n [] [] [] w) same nothing
read_first n (line ∷ more) written is = first_line n line more written (line_says n line)
    (read_first (n + 1) more written) is

pub text_lists : (text : List ℕ) (written : List WrittenInterface)
    → (interfaces_from 1 (lines text) [] ≡ Ok written) ↔ TableText text written
text_lists text written = (read_first 1 (lines text) written, λ say. said_first say refl refl)

pub one_list : (text : List ℕ) (written others : List WrittenInterface) → TableText text written → TableText text others
    → written ≡ others
one_list text written others x y =
    let same : Ok written ≡ Ok others = sym (said_first x refl refl) ∙ said_first y refl refl in cc same

-- a line that may not follow the lines before it adds nothing
added_somewhere : (side : Bool) (m : WrittenMessage) (i : WrittenInterface) (written : List WrittenInterface)
    → message_added side m (i ∷ written) ≡ None → ⊥
added_somewhere side m i [] is = cc is
added_somewhere side m i (j ∷ written) is = by (message_added side m (j ∷ written))
    (added_somewhere side m j written) is
  where
    by : (o : Option (List WrittenInterface)) → (o ≡ None → ⊥) → option_map (λ all. i ∷ all) o ≡ None → ⊥
    by None never e = never refl
    by (Some all) never e = cc e

numbered : (n : ℕ) (line : List ℕ) (side : Bool) (m : WrittenMessage) → IsMessageLine line side m
    → IsMessageLine line side (record m { line = n })
numbered n line side m said = record { rest = said.rest; whole = said.whole; named = said.named; tail = said.tail }

message_stands : (n : ℕ) (line : List ℕ) (written : List WrittenInterface) (side : Bool) (m : WrittenMessage)
    → IsMessageLine line side m → 0 < length written → line_added n line written ≡ None → ⊥
message_stands n line [] side m said some is = absurd (omega (arith, some))
message_stands n line (i ∷ written) side m said some is =
    let at : WrittenMessage = record m { line = n } in
    added_somewhere side (record m { line = n }) i written
    (sym (message_line_added n line side (record m { line = n }) (numbered n line side m said) refl (i ∷ written)) ∙ is)

none_stands : (n : ℕ) (line : List ℕ) (written : List WrittenInterface) → line_added n line written ≡ None
    → MayStand written line → ⊥
none_stands n line written is stands = elim stands [
  | skips skip ↦ let no : Some written ≡ None = sym (skipped_added n line skip written) ∙ is in cc no
  | opens extends name version said ↦ let no : Some (written ++ opened extends n name version ∷ []) ≡ None =
      sym (interface_line_added extends n line name version said written) ∙ is in cc no
  | adds side m said some ↦ message_stands n line written side m said some is
]

alone_fails : (n : ℕ) (line : List ℕ) (side : Bool) (m : WrittenMessage) → m.line ≡ n → IsMessageLine line side m
    → (written : List WrittenInterface) → ¬ MayStand written line → line_added n line written ≡ None
alone_fails n line side m at said [] bad = message_line_added n line side m said at []
alone_fails n line side m at said (i ∷ written) bad = absurd (bad (adds side m said (omega arith)))

may_not_stand : (n : ℕ) (line : List ℕ) (written : List WrittenInterface) → ¬ MayStand written line
    → line_added n line written ≡ None
may_not_stand n line written bad = elim (line_says n line) [
  | it_skips skip ↦ absurd (bad (skips skip))
  | it_opens extends name version said ↦ absurd (bad (opens extends name version said))
  | it_adds side m at said ↦ alone_fails n line side m at said written bad
  | it_fails fails ↦ fails written
]

-- lines are read one after another
read_before : (before rest : List (List ℕ)) (n : ℕ) (so_far written : List WrittenInterface)
    → interfaces_from n before so_far ≡ Ok written
    → interfaces_from n (before ++ rest) so_far ≡ interfaces_from (n + length before) rest written
read_before [] rest n so_far written is =
    let same : so_far ≡ written = cc is in
    let at : n ≡ n + 0 = omega arith in
    ap (λ (w : List WrittenInterface). interfaces_from n rest w) same
    ∙ ap (λ (k : ℕ). interfaces_from k rest written) at
read_before (line ∷ before) rest n so_far written is =
    by (line_added n line so_far) refl (λ all e. read_before before rest (n + 1) all written e) is
  where
    by : (o : Option (List WrittenInterface)) → line_added n line so_far ≡ o
        → ((all : List WrittenInterface) → interfaces_from (n + 1) before all ≡ Ok written
        → interfaces_from (n + 1) (before ++ rest) all ≡ interfaces_from (n + 1 + length before) rest written)
        → option_map_or (λ all. interfaces_from (n + 1) before all) o (Err n) ≡ Ok written
        → interfaces_from n (line ∷ (before ++ rest)) so_far ≡ interfaces_from (n + length (line ∷ before)) rest written
    by None here later e = cc e
    by (Some all) here later e =
        let at : n + 1 + length before ≡ n + length (line ∷ before) = omega arith in
        listed_on n line (before ++ rest) so_far (Some all) here ∙ later all e
        ∙ ap (λ (k : ℕ). interfaces_from k rest written) at

record Stops (n : ℕ) (all : List (List ℕ)) (so_far : List WrittenInterface) (number : ℕ) : Type 0 where
  before : List (List ℕ)
  line : List ℕ
  after : List (List ℕ)
  written : List WrittenInterface
  whole : all ≡ before ++ line ∷ after
  place : number ≡ n + length before
  read : interfaces_from n before so_far ≡ Ok written
  fails : line_added number line written ≡ None

stops_on : (n : ℕ) (line : List ℕ) (more : List (List ℕ)) (so_far : List WrittenInterface) (number : ℕ)
    (o : Option (List WrittenInterface)) → line_added n line so_far ≡ o
    → ((all : List WrittenInterface) → interfaces_from (n + 1) more all ≡ Err number → Stops (n + 1) more all number)
    → option_map_or (λ all. interfaces_from (n + 1) more all) o (Err n) ≡ Err number
    → Stops n (line ∷ more) so_far number
stops_on n line more so_far number None here later e =
    let same : n ≡ number = cc e in
    record {
      before = [];
      line = line;
      after = more;
      written = so_far;
      whole = refl;
      place = omega (arith, same);
      read = refl;
      fails = subst (λ (k : ℕ). line_added k line so_far ≡ None) same here;
    }
stops_on n line more so_far number (Some all) here later e =
    let later_stop = later all e in
    let place = later_stop.place in
    record {
      before = line ∷ later_stop.before;
      line = later_stop.line;
      after = later_stop.after;
      written = later_stop.written;
      whole = ap (λ (ls : List (List ℕ)). line ∷ ls) later_stop.whole;
      place = omega (arith, place);
      read = listed_on n line later_stop.before so_far (Some all) here ∙ later_stop.read;
      fails = later_stop.fails;
    }

stops : (n : ℕ) (all : List (List ℕ)) (so_far : List WrittenInterface) (number : ℕ)
    → interfaces_from n all so_far ≡ Err number
    → Stops n all so_far number
stops n [] so_far number is = cc is
stops n (line ∷ more) so_far number is = stops_on n line more so_far number (line_added n line so_far) refl
    (λ all e. stops (n + 1) more all number e) is

stop_is_bad : (text : List ℕ) (number : ℕ) → interfaces_from 1 (lines text) [] ≡ Err number → IsFirstBadLine text number
stop_is_bad text number is =
    let stop = stops 1 (lines text) [] number is in
    let place = stop.place in
    record {
      before = stop.before;
      line = stop.line;
      after = stop.after;
      written = stop.written;
      whole = stop.whole;
      place = omega (arith, place);
      good = read_first 1 stop.before stop.written stop.read;
      bad = none_stands number stop.line stop.written stop.fails;
    }

bad_stops : (text : List ℕ) (number : ℕ) → IsFirstBadLine text number → interfaces_from 1 (lines text) [] ≡ Err number
bad_stops text number bad =
    let place = bad.place in
    let at : 1 + length bad.before ≡ number = omega (arith, place) in
    ap (λ (ls : List (List ℕ)). interfaces_from 1 ls []) bad.whole
    ∙ read_before bad.before (bad.line ∷ bad.after) 1 [] bad.written (said_first bad.good refl refl)
    ∙ listed_on (1 + length bad.before) bad.line bad.after bad.written None
    (may_not_stand (1 + length bad.before) bad.line bad.written bad.bad)
    ∙ ap Err at

pub first_bad : (text : List ℕ) (number : ℕ) → (interfaces_from 1 (lines text) [] ≡ Err number)
    ↔ IsFirstBadLine text number
first_bad text number = (stop_is_bad text number, bad_stops text number)
