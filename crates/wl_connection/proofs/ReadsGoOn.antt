-- What an end reads does not change if more comes in.
use Rattle.std.proofs.Common.{◌≡◌, ℕ, suc, ◌+◌, ◌-◌, ◌<◌, ◌≤◌, inl, inr, Bool, true, false, cond, List}
use Rattle.std.proofs.Common.{[], ◌∷◌, ◌++◌, length, take, drop, refl, sym, ap, subst, ◌∙◌, arith}
use Rattle.std.specs.Prelude.{min, nat_le}
use Rattle.std.specs.declared.option.Option.{Option}
use Rattle.std.specs.declared.option.Option.TheVariants.{None, Some}
use Rattle.std.specs.declared.result.Result.{Result}
use Rattle.std.specs.declared.result.Result.TheVariants.{Ok, Err}
use Rattle.std.proofs.lemmas.Bool.{cases_lt}
use Rattle.std.proofs.lemmas.Bool.Decides.{nat_tests}
use Rattle.std.proofs.lemmas.List.{append-nil, length-drop, take_all}
use Rattle.std.proofs.Math.Seq.{take-add}
use Rattle.wl_message.specs.declared.amounts.Amounts.{Amounts}
use Rattle.wl_message.specs.Arrived.{Arrived, free_bytes, free_tokens, fed}
use Rattle.wl_message.specs.InStep.{Part, part_bytes, part_tokens}
use Rattle.wl_objects.specs.declared.error.NextError.{NextError}
use Rattle.wl_objects.specs.declared.error.NextError.TheVariants as errors
use Rattle.wl_connection.specs.declared.streams.ReadAll.{ReadAll}
use Rattle.wl_connection.specs.Core.{Core, feeds, no_room, in_room, with_arrived}
use Rattle.wl_connection.specs.Streams.{taken_bytes, taken_tokens, NoneFits}
use Rattle.wl_connection.specs.Reads.{Reading, IsCoreOf, with_arrivals, Reads, none, last, next}
use Rattle.wl_connection.specs.Reads.{ReadsSome, nothing, more, ReadsUntil, ReadsAll, appended}
use Rattle.wl_connection.specs.Reads.{ReadsReport, ReadsNothing, ReadsNext, HasReport, ReadsOn}
use Rattle.wl_connection.specs.Reads.{WaitingIsRead, IsBegun, IsReadBefore}
use Rattle.wl_connection.proofs.Appended.{kept_again, kept_more, behind_again, more_behind, none_behind}
use Rattle.wl_connection.proofs.FoundStays.{arrived_none, arrived_twice}
use Rattle.wl_connection.proofs.Pieces.{taken_bytes-at, taken_tokens-at, is_taken_at}
use Rattle.wl_connection.proofs.Pieces.{part_bytes-next, part_tokens-next, is_taken_none}
use Rattle.wl_connection.proofs.Pieces.{taken_bytes-none, taken_tokens-none}

-- ---- one reading after another

pub some_then : {S R : Type 0} {e : Reading S R} {state middle end : S} {reports others : List R}
    → ReadsSome e state reports middle → ReadsSome e middle others end → ReadsSome e state (reports ++ others) end
some_then nothing h = h
some_then (more a n g) h = more a n (some_then g h)

pub some_reads : {S R : Type 0} {e : Reading S R} {state middle end : S} {reports others : List R} {stop : Option
    NextError} → ReadsSome e state reports middle → Reads e middle others stop end
    → Reads e state (reports ++ others) stop end
some_reads nothing h = h
some_reads (more a n g) h = next a n (some_reads g h)

pub until_then : {S R : Type 0} (e : Reading S R) (state middle end : S) (reports others : List R)
    (stop : Option NextError) → ReadsSome e state reports middle → ReadsUntil e middle others stop end
    → ReadsUntil e state (reports ++ others) stop end
until_then e state middle end reports others None h g = some_reads h g
until_then e state middle end reports others (Some (errors.Fault what offset)) h g = some_reads h g
until_then e state middle end reports others (Some errors.Failed) h g = some_reads h g
until_then e state middle end reports others (Some errors.Memory) h g = (some_then h g.0, g.1)
until_then e state middle end reports others (Some errors.OutFull) h g = some_reads h g

-- ---- what came in two steps

pub arrived_again : {S R : Type 0} (e : Reading S R) → IsCoreOf e.core e.with_core → (state : S) (a s b t : List ℕ)
    → with_arrivals e (with_arrivals e state a s) b t ≡ with_arrivals e state (a ++ b) (s ++ t)
arrived_again e laws state a s b t =
    ap (λ (c : Core). e.with_core (with_arrivals e state a s) (with_arrived c b t))
    (laws.new state (with_arrived (e.core state) a s))
    ∙ laws.again state (with_arrived (e.core state) a s) (with_arrived (with_arrived (e.core state) a s) b t)
    ∙ ap (e.with_core state) (arrived_twice (e.core state) a s b t)

pub arrived_nothing : {S R : Type 0} (e : Reading S R) → IsCoreOf e.core e.with_core → (state : S)
    → with_arrivals e state [] [] ≡ state
arrived_nothing e laws state = ap (e.with_core state) (arrived_none (e.core state)) ∙ laws.kept state

-- taking in more does not change whether an end has failed
arrived_open : {S R : Type 0} (e : Reading S R) → IsCoreOf e.core e.with_core → (state : S) (bytes tokens : List ℕ)
    → (e.core (with_arrivals e state bytes tokens)).failed ≡ (e.core state).failed
arrived_open e laws state bytes tokens = ap (λ (c : Core). c.failed)
    (laws.new state (with_arrived (e.core state) bytes tokens))

-- ---- what is read, whatever comes in later

pub on_none : {S R : Type 0} (e : Reading S R) (state : S) → ReadsOn e state [] state
on_none e state bytes tokens = nothing

pub on_then : {S R : Type 0} (e : Reading S R) (state middle end : S) (reports others : List R)
    → ReadsOn e state reports middle → ReadsOn e middle others end → ReadsOn e state (reports ++ others) end
on_then e state middle end reports others h g bytes tokens = some_then (h bytes tokens) (g bytes tokens)

pub on_one : {S R : Type 0} (e : Reading S R) (state end : S) (report : R) → ReadsReport e state report end
    → e.is_last report ≡ false → ReadsOn e state (report ∷ []) end
on_one e state end report h n bytes tokens =
    more (h.stays bytes tokens) n (subst (λ s. ReadsSome e s [] (with_arrivals e end bytes tokens))
    (sym (h.leaves_more bytes tokens)) nothing)

-- the same with something that came in later
on_more : {S R : Type 0} (e : Reading S R) → IsCoreOf e.core e.with_core
    → (state end : S) (reports : List R) (bytes tokens : List ℕ) → ReadsOn e state reports end
    → ReadsOn e (with_arrivals e state bytes tokens) reports (with_arrivals e end bytes tokens)
on_more e laws state end reports bytes tokens h others marks =
    subst (λ s. ReadsSome e s reports (with_arrivals e (with_arrivals e end bytes tokens) others marks))
    (sym (arrived_again e laws state bytes tokens others marks))
    (subst (λ s. ReadsSome e (with_arrivals e state (bytes ++ others) (tokens ++ marks)) reports s)
    (sym (arrived_again e laws end bytes tokens others marks)) (h (bytes ++ others) (tokens ++ marks)))

-- the same with nothing later
pub on_alone : {S R : Type 0} (e : Reading S R) → IsCoreOf e.core e.with_core → (state end : S) (reports : List R)
    → ReadsOn e state reports end → ReadsSome e state reports end
on_alone e laws state end reports h =
    subst (λ s. ReadsSome e s reports end) (arrived_nothing e laws state)
    (subst (λ s. ReadsSome e (with_arrivals e state [] []) reports s) (arrived_nothing e laws end) (h [] []))

pub on_until : {S R : Type 0} (e : Reading S R) → IsCoreOf e.core e.with_core
    → (state middle end : S) (reports others : List R) (stop : Option NextError) → ReadsOn e state reports middle
    → ReadsUntil e middle others stop end
    → ReadsUntil e state (reports ++ others) stop end
on_until e laws state middle end reports others stop h g =
    until_then e state middle end reports others stop (on_alone e laws state middle reports h) g

-- nothing remains to read
pub on_to_none : {S R : Type 0} (e : Reading S R) → IsCoreOf e.core e.with_core → (state end : S) (reports : List R)
    → ReadsOn e state reports end → ReadsNothing e end → Reads e state reports None end
on_to_none e laws state end reports h n =
    subst (λ rs. Reads e state rs None end) (append-nil reports)
    (some_reads (on_alone e laws state end reports h) (none n.is))

-- ---- reports appended to a list

pub pushed_kept : {X : Type 0} (xs before reserved after : List X) (x : X) → take (length xs) before ≡ xs
    → reserved ≡ before → after ≡ reserved ++ x ∷ [] → take (length xs) after ≡ xs
pushed_kept xs before reserved after x k r p =
    let same : after ≡ before ++ x ∷ [] = p ∙ ap (λ l. l ++ x ∷ []) r in
    kept_again xs before after k (ap (take (length before)) same ∙ kept_more before (x ∷ []))

pub pushed_appended : {X R : Type 0} (seen : X → R) (xs before reserved after : List X) (x : X)
    → take (length xs) before ≡ xs → reserved ≡ before → after ≡ reserved ++ x ∷ []
    → appended seen xs after ≡ appended seen xs before ++ seen x ∷ []
pushed_appended seen xs before reserved after x k r p =
    let same : after ≡ before ++ x ∷ [] = p ∙ ap (λ l. l ++ x ∷ []) r in
    let kept : take (length before) after ≡ before = ap (take (length before)) same ∙ kept_more before (x ∷ []) in
    behind_again seen xs before after k kept
    ∙ ap (λ l. appended seen xs before ++ l) (ap (appended seen before) same ∙ more_behind seen before (x ∷ []))

-- nothing was appended
pub on_first : {S R X : Type 0} (e : Reading S R) (seen : X → R) (state : S) (xs : List X)
    → ReadsOn e state (appended seen xs xs) state
on_first e seen state xs = subst (λ rs. ReadsOn e state rs state) (sym (none_behind seen xs)) (on_none e state)

-- one more report
pub on_pushed : {S R X : Type 0} (e : Reading S R) (seen : X → R) (state middle end : S)
    (xs before reserved after : List X) (x : X) → ReadsOn e state (appended seen xs before) middle
    → ReadsReport e middle (seen x) end → (e.core end).failed ≡ false → take (length xs) before ≡ xs → reserved ≡ before
    → after ≡ reserved ++ x ∷ [] → ReadsOn e state (appended seen xs after) end
on_pushed e seen state middle end xs before reserved after x h g n k r p =
    subst (λ rs. ReadsOn e state rs end) (sym (pushed_appended seen xs before reserved after x k r p))
    (on_then e state middle end (appended seen xs before) (seen x ∷ []) h
    (on_one e middle end (seen x) g (sym g.ends ∙ n)))

-- the last report
pub reads_pushed : {S R X : Type 0} (e : Reading S R) → IsCoreOf e.core e.with_core
    → (seen : X → R) (state middle end : S) (xs before reserved after : List X) (x : X)
    → ReadsOn e state (appended seen xs before) middle
    → ReadsReport e middle (seen x) end → (e.core end).failed ≡ true → take (length xs) before ≡ xs → reserved ≡ before
    → after ≡ reserved ++ x ∷ [] → Reads e state (appended seen xs after) None end
reads_pushed e laws seen state middle end xs before reserved after x h g n k r p =
    subst (λ rs. Reads e state rs None end) (sym (pushed_appended seen xs before reserved after x k r p))
    (some_reads (on_alone e laws state middle (appended seen xs before) h)
    (subst (λ s. Reads e middle (seen x ∷ []) None s) (sym g.leaves) (last g.is (sym g.ends ∙ n))))

-- what was read in two runs
pub on_again : {S R X : Type 0} (e : Reading S R) (seen : X → R) (state middle end : S) (xs before after : List X)
    → ReadsOn e state (appended seen xs before) middle → take (length xs) before ≡ xs
    → take (length before) after ≡ before → ReadsOn e middle (appended seen before after) end
    → ReadsOn e state (appended seen xs after) end
on_again e seen state middle end xs before after h k m g =
    subst (λ rs. ReadsOn e state rs end) (sym (behind_again seen xs before after k m))
    (on_then e state middle end (appended seen xs before) (appended seen before after) h g)

pub until_again : {S R X : Type 0} (e : Reading S R) → IsCoreOf e.core e.with_core
    → (seen : X → R) (state middle end : S) (xs before after : List X) (stop : Option NextError)
    → ReadsOn e state (appended seen xs before) middle
    → take (length xs) before ≡ xs → take (length before) after ≡ before
    → ReadsUntil e middle (appended seen before after) stop end → ReadsUntil e state (appended seen xs after) stop end
until_again e laws seen state middle end xs before after stop h k m g =
    subst (λ rs. ReadsUntil e state rs stop end) (sym (behind_again seen xs before after k m))
    (on_until e laws state middle end (appended seen xs before) (appended seen before after) stop h g)

-- a stop, with nothing more read
pub until_stop : {S R X : Type 0} (e : Reading S R) → IsCoreOf e.core e.with_core
    → (seen : X → R) (state middle end : S) (xs before reserved : List X) (stop : Option NextError)
    → ReadsOn e state (appended seen xs before) middle
    → ReadsUntil e middle [] stop end → reserved ≡ before → ReadsUntil e state (appended seen xs reserved) stop end
until_stop e laws seen state middle end xs before reserved stop h g r =
    subst (λ ys. ReadsUntil e state (appended seen xs ys) stop end) (sym r)
    (subst (λ rs. ReadsUntil e state rs stop end) (append-nil (appended seen xs before))
    (on_until e laws state middle end (appended seen xs before) [] stop h g))

-- the result if there is no room for a report
pub waiting_then : {S R X Y : Type 0} (e : Reading S R) → IsCoreOf e.core e.with_core
    → (seen : X → R) (state middle end : S) (xs before reserved : List X) (r : Result Y (Option NextError))
    → ReadsOn e state (appended seen xs before) middle
    → WaitingIsRead e middle [] r end → reserved ≡ before → WaitingIsRead e state (appended seen xs reserved) r end
waiting_then e laws seen state middle end xs before reserved (Ok x) h g r = (
  subst (λ ys. ReadsOn e state (appended seen xs ys) end) (sym r)
      (subst (λ rs. ReadsOn e state rs end) (append-nil (appended seen xs before))
      (on_then e state middle end (appended seen xs before) [] h g.0)),
  g.1,
)
waiting_then e laws seen state middle end xs before reserved (Err stop) h g r =
    (until_stop e laws seen state middle end xs before reserved stop h g.0 r, g.1)

-- ---- one call that reads

pub report_read : {S R X : Type 0} (e : Reading S R) (seen : X → R) (state end : S) (o : Option X) (x : X) → o ≡ Some x
    → ReadsNext e seen state (Ok o) end → ReadsReport e state (seen x) end
report_read e seen state end o x is h = subst (λ (p : Option _). ReadsNext e seen state (Ok p) end) is h

-- nothing is read if there is nothing to report
pub nothing_read : {S R X : Type 0} (e : Reading S R) (seen : X → R) (state end : S) (o : Option X)
    → (HasReport e state → ⊥) → ReadsNext e seen state (Ok o) end → ReadsOn e state [] end × ReadsNothing e end
nothing_read e seen state end (Some x) n h = absurd (n (seen x, h.is))
nothing_read e seen state end None n h = (
  subst (λ s. ReadsOn e state [] s) (sym h.0) (on_none e state),
  subst
      (ReadsNothing e) (sym h.0) h.1,
)

-- ---- how much is fed

pub feeds_open : (core : Core) (bytes tokens : List ℕ) → core.failed ≡ false
    → feeds core bytes tokens ≡ fed core.inbox bytes tokens
feeds_open core bytes tokens h = ap (λ (b : Bool). cond b no_room (fed core.inbox bytes tokens)) h

-- tokens for which there is room are all taken
pub fed_tokens : (core : Core) (bytes tokens : List ℕ) (r : Amounts) → core.failed ≡ false
    → length tokens ≤ free_tokens core.inbox → r ≡ feeds core bytes tokens → r.tokens ≡ length tokens
fed_tokens core bytes tokens r h room e =
    let t : r.tokens ≡ min (length tokens) (free_tokens core.inbox) =
    ap (λ (f : Amounts). f.tokens) (e ∙ feeds_open core bytes tokens h) in
    omega arith

fed_by : (a : Arrived) (bytes tokens : List ℕ) → length tokens ≤ free_tokens a
    → (fed a bytes tokens).bytes ≡ min (length bytes) (free_bytes a)
fed_by a bytes tokens room =
    let fits : nat_le (length tokens) (free_tokens a) ≡ true = grind (arith, nat_tests) in
    ap (λ (b : Bool). cond b (min (length bytes) (free_bytes a)) 0) fits

pub fed_bytes : (core : Core) (bytes tokens : List ℕ) (r : Amounts) → core.failed ≡ false
    → length tokens ≤ free_tokens core.inbox → r ≡ feeds core bytes tokens
    → r.bytes ≡ min (length bytes) (free_bytes core.inbox)
fed_bytes core bytes tokens r h room e = ap (λ (f : Amounts). f.bytes) (e ∙ feeds_open core bytes tokens h)
    ∙ fed_by core.inbox bytes tokens room

-- ---- feeding a piece

-- after the first feed of a piece
pub fed_first : {S R X : Type 0} (e : Reading S R) (seen : X → R) (state new : S) (bytes tokens : List ℕ) (r : Amounts)
    (xs : List X) → (e.core state).failed ≡ false → length tokens ≤ free_tokens (e.core state).inbox
    → r ≡ feeds (e.core state) bytes tokens → new ≡ with_arrivals e state (take r.bytes bytes) (take r.tokens tokens)
    → ReadsOn e (with_arrivals e state (take r.bytes bytes) tokens) (appended seen xs xs) new
fed_first e seen state new bytes tokens r xs s room f n =
    let t = fed_tokens (e.core state) bytes tokens r s room f in
    let all : take r.tokens tokens ≡ tokens = take_all r.tokens tokens (omega arith) in
    let same : with_arrivals e state (take r.bytes bytes) tokens ≡ new =
    ap (with_arrivals e state (take r.bytes bytes)) (sym all) ∙ sym n in
    subst (λ x. ReadsOn e (with_arrivals e state (take r.bytes bytes) tokens) (appended seen xs xs) x) same
    (on_first e seen (with_arrivals e state (take r.bytes bytes) tokens) xs)

-- after another feed of the same piece
pub fed_more : {S R : Type 0} (e : Reading S R) → IsCoreOf e.core e.with_core
    → (state middle new : S) (bytes tokens rest others : List ℕ) (k n : ℕ) (reports : List R)
    → ReadsOn e (with_arrivals e state (take k bytes) tokens) reports middle
    → new ≡ with_arrivals e middle (take n rest) others → rest ≡ drop k bytes → others ≡ []
    → ReadsOn e (with_arrivals e state (take (k + n) bytes) tokens) reports new
fed_more e laws state middle new bytes tokens rest others k n reports h a r o =
    let more = take n rest in
    let b : take k bytes ++ more ≡ take (k + n) bytes =
    ap (λ (l : List ℕ). take k bytes ++ take n l) r ∙ sym (take-add k n bytes) in
    let t : tokens ++ others ≡ tokens = ap (λ (l : List ℕ). tokens ++ l) o ∙ append-nil tokens in
    let same : with_arrivals e (with_arrivals e state (take k bytes) tokens) more others
    ≡ with_arrivals e state (take (k + n) bytes) tokens =
    arrived_again e laws state (take k bytes) tokens more others ∙ (λ i. with_arrivals e state (b i) (t i)) in
    subst (λ x. ReadsOn e x reports new) same
    (subst (λ x. ReadsOn e (with_arrivals e (with_arrivals e state (take k bytes) tokens) more others) reports x)
    (sym a)
    (on_more e laws (with_arrivals e state (take k bytes) tokens) middle reports more others h))

-- feeding does not make the end fail
pub fed_open : {S R : Type 0} (e : Reading S R) → IsCoreOf e.core e.with_core → (state new : S) (bytes tokens : List ℕ)
    → (e.core state).failed ≡ false → new ≡ with_arrivals e state bytes tokens → (e.core new).failed ≡ false
fed_open e laws state new bytes tokens h n = ap (λ s. (e.core s).failed) n ∙ arrived_open e laws state bytes tokens ∙ h

-- the rest of the bytes, from a place on
pub rest_is : (k : ℕ) (bytes : List ℕ) → take (length bytes - k) (drop k bytes) ≡ drop k bytes
rest_is k bytes = take_all (length bytes - k) (drop k bytes) (omega (arith, length-drop k bytes))

pub rest_len : (k : ℕ) (bytes : List ℕ) → length (take (length bytes - k) (drop k bytes)) ≡ length bytes - k
rest_len k bytes = ap (λ (l : List ℕ). length l) (rest_is k bytes) ∙ length-drop k bytes

-- There is room for a byte if no whole message waits.
pub fed_some : (core : Core) (bytes : List ℕ) (r : Amounts) → core.failed ≡ false
    → length core.inbox.bytes < core.inbox.limit.bytes → core.inbox.limit.bytes ≤ core.inbox.capacity → 0 < length bytes
    → r ≡ feeds core bytes [] → 0 < r.bytes
fed_some core bytes r h short capacity some f =
    let b = fed_bytes core bytes [] r h (omega arith) f in
    omega arith

pub fed_within : (core : Core) (bytes : List ℕ) (r : Amounts) → core.failed ≡ false → r ≡ feeds core bytes []
    → r.bytes ≤ length bytes
fed_within core bytes r h f =
    let b = fed_bytes core bytes [] r h (omega arith) f in
    omega arith

-- ---- all pieces

-- For each of the first `count` pieces, all that came before it is read.
abbrev pub AreReadBefore : {S R : Type 0} → Reading S R → S → List Part → ℕ → Type 0
AreReadBefore e state pieces count = (place : ℕ) → place < count → IsReadBefore e state pieces place

-- true of no piece
pub none_before : {S R : Type 0} (e : Reading S R) (state : S) (pieces : List Part)
    → AreReadBefore e state pieces 0
none_before e state pieces place h = absurd (omega (arith, h))

-- one more piece, after everything waiting was read
pub one_before : {S R : Type 0} (e : Reading S R) (state : S) (pieces : List Part) (i j : ℕ) → j ≡ suc i
    → AreReadBefore e state pieces i → IsReadBefore e state pieces i → AreReadBefore e state pieces j
one_before e state pieces i j is before this place h =
    elim (cases_lt place i) [
      | inl less ↦ before place less
      | inr behind ↦ (
          let same : i ≡ place = omega (arith, behind, h, is) in
          subst (IsReadBefore e state pieces) same this)
    ]

pub read_to_here : {S R : Type 0} (e : Reading S R) → IsCoreOf e.core e.with_core
    → (state middle : S) (pieces : List Part) (i j : ℕ) (reports : List R) → j ≡ suc i
    → AreReadBefore e state pieces i
    → ReadsOn e (with_arrivals e state (part_bytes (take i pieces)) (part_tokens (take i pieces))) reports middle
    → ReadsNothing e middle → AreReadBefore e state pieces j
read_to_here e laws state middle pieces i j reports is before on empty =
    one_before e state pieces i j is before (record {
      reports = reports;
      end = middle;
      reads = on_to_none e laws (with_arrivals e state (part_bytes (take i pieces)) (part_tokens (take i pieces)))
          middle reports on empty;
      goes_on = empty.sound;
    })

-- a piece that is begun comes before the next one if nothing was taken of that
begun_between : (place i : ℕ) (stop : Option NextError)
    → IsBegun (record { pieces = i; part = no_room; stop = stop }) place → place < i
begun_between place i stop (inl h) = h
begun_between place i stop (inr h) = absurd (h.1 refl)

-- it may be the next one if something was taken of that
begun_within : (place i : ℕ) (some : Amounts) (stop : Option NextError)
    → IsBegun (record { pieces = i; part = some; stop = stop }) place → place < suc i
begun_within place i some stop (inl h) = omega (arith, h)
begun_within place i some stop (inr h) = omega (arith, h.0)

-- reading ends between two pieces
pub ends_between : {S R : Type 0} (e : Reading S R) (state end : S) (pieces : List Part) (i : ℕ) (reports : List R)
    (answer : ReadAll) (stop : Option NextError) → i ≤ length pieces
    → answer ≡ record { pieces = i; part = no_room; stop = stop }
    → ReadsUntil e (with_arrivals e state (part_bytes (take i pieces)) (part_tokens (take i pieces))) reports stop end
    → (stop ≡ None → (e.core end).failed ≡ false → NoneFits (free_tokens (e.core end).inbox) pieces i)
    → AreReadBefore e state pieces i
    → ReadsAll e state pieces reports answer end
ends_between e state end pieces i reports answer stop within is h n before =
    let b = taken_bytes-none pieces i in
    let t = taken_tokens-none pieces i in
    let ended : ReadAll = record { pieces = i; part = no_room; stop = stop } in
    subst (λ (a : ReadAll). ReadsAll e state pieces reports a end) (sym is)
    (record {
      taken = is_taken_none pieces i within;
      reads = subst (λ x. ReadsUntil e x reports stop end) (λ j. with_arrivals e state (sym b j) (sym t j)) h;
      in_order = λ place begun. before place (begun_between place i stop begun);
      to_the_end = λ s f. (refl, n s f);
    })

-- reading ends within a piece
pub ends_within : {S R : Type 0} (e : Reading S R) → IsCoreOf e.core e.with_core
    → (state middle end : S) (pieces : List Part) (i : ℕ) (p : Part) (rest : List Part) (before others : List R)
    (some : Amounts) (stop : Option NextError)
    → drop i pieces ≡ p ∷ rest → ReadsOn e (with_arrivals e state (part_bytes (take i pieces))
    (part_tokens (take i pieces)))
    before middle
    → ReadsUntil e (with_arrivals e middle (take some.bytes p.bytes) (take some.tokens p.tokens)) others stop end
    → (stop ≡ None → (e.core end).failed ≡ true) → some.bytes < length p.bytes → some.tokens ≡ length p.tokens
    → AreReadBefore e state pieces (suc i)
    → ReadsAll e state pieces (before ++ others) (record { pieces = i; part = some; stop = stop }) end
ends_within e laws state middle end pieces i p rest before others some stop d h g n less all earlier =
    let bytes = take some.bytes p.bytes in
    let tokens = take some.tokens p.tokens in
    let first = with_arrivals e state (part_bytes (take i pieces)) (part_tokens (take i pieces)) in
    let b = taken_bytes-at pieces i some p rest d in
    let t = taken_tokens-at pieces i some p rest d in
    let whole : with_arrivals e first bytes tokens ≡ with_arrivals e state (taken_bytes pieces i some)
    (taken_tokens pieces i some) =
    arrived_again e laws state (part_bytes (take i pieces)) (part_tokens (take i pieces)) bytes tokens
    ∙ (λ j. with_arrivals e state (sym b j) (sym t j)) in
    record {
      taken = is_taken_at pieces i some p rest d (inr (less, all));
      reads = subst (λ x. ReadsUntil e x (before ++ others) stop end) whole
          (until_then e (with_arrivals e first bytes tokens) (with_arrivals e middle bytes tokens) end before others
          stop
          (h bytes tokens) g);
      in_order = λ place begun. earlier place (begun_within place i some stop begun);
      to_the_end = λ s f. absurd (cc (n s, f));
    }

-- one more piece
pub reads_piece : {S R : Type 0} (e : Reading S R) → IsCoreOf e.core e.with_core
    → (state middle end : S) (pieces : List Part) (i j : ℕ) (p : Part) (rest : List Part) (before others : List R)
    → drop i pieces ≡ p ∷ rest → j ≡ suc i
    → ReadsOn e (with_arrivals e state (part_bytes (take i pieces)) (part_tokens (take i pieces))) before middle
    → ReadsOn e (with_arrivals e middle p.bytes p.tokens) others end
    → ReadsOn e (with_arrivals e state (part_bytes (take j pieces)) (part_tokens (take j pieces))) (before ++ others)
    end
reads_piece e laws state middle end pieces i j p rest before others d is h g =
    let first = with_arrivals e state (part_bytes (take i pieces)) (part_tokens (take i pieces)) in
    let b = part_bytes-next pieces i p rest d in
    let t = part_tokens-next pieces i p rest d in
    let whole : with_arrivals e first p.bytes p.tokens ≡ with_arrivals e state (part_bytes (take (suc i) pieces))
    (part_tokens (take (suc i) pieces)) =
    arrived_again e laws state (part_bytes (take i pieces)) (part_tokens (take i pieces)) p.bytes p.tokens
    ∙ (λ j. with_arrivals e state (sym b j) (sym t j)) in
    subst (λ (n : ℕ). ReadsOn e (with_arrivals e state (part_bytes (take n pieces)) (part_tokens (take n pieces)))
    (before ++ others) end) (sym is)
    (subst (λ x. ReadsOn e x (before ++ others) end) whole
    (on_then e (with_arrivals e first p.bytes p.tokens) (with_arrivals e middle p.bytes p.tokens) end before others
    (on_more e laws first middle before p.bytes p.tokens h) g))

-- the room that an end reports
pub room_is : (core : Core) (r : Amounts) → core.failed ≡ false → r ≡ in_room core → r.tokens ≡ free_tokens core.inbox
room_is core r h e = ap (λ (f : Amounts). f.tokens) (e
    ∙ ap (λ (b : Bool). cond b no_room (record { bytes = free_bytes core.inbox; tokens = free_tokens core.inbox })) h)
