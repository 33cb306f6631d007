-- Several flushes together write what waited. A piece that is taken in whole is read.
use Rattle.std.proofs.Common.{◌≡◌, ℕ, ◌+◌, ◌-◌, ◌≤◌, List, [], ◌∷◌, length, take, drop, Option}
use Rattle.std.proofs.Common.{refl, sym, ap, subst, ◌∙◌, arith, length-append, length-drop, IfOk}
use Rattle.std.proofs.Common.{OnOk}
use Rattle.std.specs.Prelude.{Bool, true, false, Result, Ok, Err, Some, None}
use Rattle.std.specs.Io.KnownBytes.{Appends}
use Rattle.std.proofs.lemmas.List.{take_all}
use Rattle.wl_message.specs.declared.streams.FlushError.{FlushError}
use Rattle.wl_message.specs.Outgoing.{QueuedMessage, Outgoing, MayGo, all_tokens, begun, newly_begun}
use Rattle.wl_message.specs.Outgoing.{waiting_bytes, after_taking}
use Rattle.wl_message.specs.Streams.{Flushes, bytes_written}
use Rattle.wl_message.proofs.FlushedParts.{after_none, appends_nothing, newly_more, waiting_after}
use Rattle.wl_message.proofs.FlushedParts.{after_more, appends_more}
use Rattle.wl_message.proofs.WhatGoes.{begun_none}
use Rattle.wl_message.proofs.TakenInStep.{tokens_append}
use Rattle.wl_objects.specs.declared.error.NextError.{NextError}
use Rattle.wl_objects.specs.declared.error.NextError.TheVariants.{Failed}
use Rattle.wl_connection.specs.declared.streams.ReadAll.{ReadAll}
use Rattle.wl_connection.specs.Core.{Core, no_room, with_gone}
use Rattle.wl_connection.specs.Reads.{IsCoreOf, Reading, Reads, ReadsAll, ReadsUntil, with_arrivals}
use Rattle.wl_connection.proofs.ReadsGoOn.{arrived_nothing}
use Rattle.program_socket.specs.Streams.{Sends}

none_of : (xs : List ℕ) → length xs ≤ 0 → xs ≡ []
none_of [] h = refl
none_of (x ∷ xs) h = absurd (omega (arith, h))

-- What several flushes have written of what waited at an end: its first bytes, without tokens.
pub record Written {E : Type 0} (core : E → Core) (with_core : E → Core → E) (first : E) (held : Option (List ℕ))
    (count : ℕ) (end : E) (holds : Option (List ℕ)) : Type 0 where
  pub may : MayGo (core first).outbox count 0 count
  pub leaves : end ≡ with_core first (with_gone (core first) count)
  pub written : Appends held holds (take count (waiting_bytes (core first).outbox))

-- the core of the end after them
core_left : {E : Type 0} (core : E → Core) (with_core : E → Core → E) → IsCoreOf core with_core
    → (first : E) (held : Option (List ℕ)) (count : ℕ) (end : E) (holds : Option (List ℕ))
    → Written core with_core first held count end holds → core end ≡ with_gone (core first) count
core_left core with_core laws first held count end holds w =
    ap core w.leaves ∙ laws.new first (with_gone (core first) count)

may_more : (o : Outgoing) (count n : ℕ) → MayGo o count 0 count → n ≤ length (waiting_bytes (after_taking o count))
    → all_tokens (newly_begun (after_taking o count) n) ≡ [] → MayGo o (count + n) 0 (count + n)
may_more o count n may there none =
    let waits = ap (λ (xs : List ℕ). length xs) (waiting_after o count may) ∙ length-drop count (waiting_bytes o) in
    let tokens = ap (λ (ms : List QueuedMessage). length (all_tokens ms)) (newly_more o count n)
    ∙ ap (λ (xs : List ℕ). length xs) (tokens_append (newly_begun o count)
    (newly_begun (after_taking o count) n))
    ∙ length-append (all_tokens (newly_begun o count)) (all_tokens (newly_begun (after_taking o count) n)) in
    let no_more = ap (λ (xs : List ℕ). length xs) none in
    record {
      there = omega (arith, there, waits, may.there);
      within = omega arith;
      tokens_within = omega (arith, tokens, no_more, may.tokens_within);
    }

-- no flush yet
pub written_none : {E : Type 0} (core : E → Core) (with_core : E → Core → E) → IsCoreOf core with_core
    → (first : E) (held : Option (List ℕ)) → Written core with_core first held 0 first held
written_none core with_core laws first held =
    let o = (core first).outbox in
    let none : 0 - length o.left ≡ 0 = omega arith in
    let tokens : length (all_tokens (newly_begun o 0)) ≡ 0 =
    ap (λ (n : ℕ). length (all_tokens (begun n o.messages))) none
    ∙ ap (λ (ms : List QueuedMessage). length (all_tokens ms)) (begun_none o.messages) in
    record {
      may = record { there = omega arith; within = omega arith; tokens_within = omega (arith, tokens) };
      leaves = sym (laws.kept first) ∙ ap (λ (p : Outgoing). with_core first (record (core first) { outbox = p }))
          (after_none o);
      written = appends_nothing held;
    }

-- one more flush
pub flushed : {E : Type 0} (core : E → Core) (with_core : E → Core → E) → IsCoreOf core with_core
    → (first : E) (held : Option (List ℕ)) (count : ℕ) (end : E) (holds : Option (List ℕ))
    (result : Result ℕ FlushError)
    (end' : E) (holds' : Option (List ℕ)) → Written core with_core first held count end holds
    → Flushes (core end).outbox holds result (core end').outbox holds'
    → end' ≡ with_core end (with_gone (core end) (bytes_written result))
    → Written core with_core first held (count + bytes_written result) end' holds'
flushed core with_core laws first held count end holds result end' holds' w f e =
    let o = (core first).outbox in
    let n = bytes_written result in
    let here : (core end).outbox ≡ after_taking o count =
    ap (λ (c : Core). c.outbox) (core_left core with_core laws first held count end holds w) in
    let g : Flushes (after_taking o count) holds result (core end').outbox holds' =
    subst (λ (p : Outgoing). Flushes p holds result (core end').outbox holds') here f in
    let waits = waiting_after o count w.may in
    record {
      may = may_more o count n w.may g.there g.without_tokens;
      leaves = e ∙ ap (λ (c : Core). with_core end (with_gone c n))
          (core_left core with_core laws first held count end holds w)
          ∙ ap (λ x. with_core x (with_gone (with_gone (core first) count) n)) w.leaves
          ∙ laws.again first (with_gone (core first) count) (with_gone (with_gone (core first) count) n)
          ∙ ap (λ (p : Outgoing). with_core first (record (core first) { outbox = p })) (after_more o count n w.may);
      written = appends_more held holds holds' (waiting_bytes o) count n w.written
          (subst (λ (xs : List ℕ). Appends holds holds' (take n xs)) waits g.written);
    }

pub record WrittenAll {E : Type 0} (core : E → Core) (with_core : E → Core → E) (first : E) (held : Option (List ℕ))
    (count : ℕ) (end : E) (holds : Option (List ℕ)) : Type 0 where
  pub sends : Sends (core first) held (core end) holds
  pub as_many : count ≡ length (waiting_bytes (core first).outbox)
  pub others : end ≡ with_core first (core end)

-- if the last flush succeeded, everything was written
pub flushed_all : {E : Type 0} (core : E → Core) (with_core : E → Core → E) → IsCoreOf core with_core
    → (first : E) (held : Option (List ℕ)) (count : ℕ) (end : E) (holds : Option (List ℕ))
    → Written core with_core first held count end holds → waiting_bytes (core end).outbox ≡ []
    → WrittenAll core with_core first held count end holds
flushed_all core with_core laws first held count end holds w none =
    let o = (core first).outbox in
    let left = core_left core with_core laws first held count end holds w in
    let rest : drop count (waiting_bytes o) ≡ [] =
    sym (waiting_after o count w.may) ∙ sym (ap (λ (c : Core). waiting_bytes c.outbox) left) ∙ none in
    let len = sym (length-drop count (waiting_bytes o)) ∙ ap (λ (xs : List ℕ). length xs) rest in
    let all : count ≡ length (waiting_bytes o) = omega (arith, len, w.may.there) in
    record {
      sends = record {
        without_tokens = ap (λ (n : ℕ). all_tokens (newly_begun o n)) (sym all)
            ∙ none_of (all_tokens (newly_begun o count)) w.may.tokens_within;
        taken = subst (λ (xs : List ℕ). Appends held holds xs)
            (take_all count (waiting_bytes o) (omega (arith, all))) w.written;
        gone = left ∙ ap (with_gone (core first)) all;
      };
      as_many = all;
      others = w.leaves ∙ ap (with_core first) (sym left);
    }

-- the flushes succeeded and wrote everything, this number of bytes
abbrev pub IsAll : {E X : Type 0} → (E → Core) → (E → Core → E) → E → Option (List ℕ) → Result ℕ X → E → Option (List ℕ)
    → Type 0
IsAll core with_core first held result end holds =
    IfOk result (λ count. WrittenAll core with_core first held count end holds)

pub counts_all : {E X : Type 0} (core : E → Core) (with_core : E → Core → E) (first : E) (held : Option (List ℕ))
    (all : ℕ) (end : E) (holds : Option (List ℕ)) (result : Result ℕ X)
    → IfOk result (λ count. count ≡ all) → WrittenAll core with_core first held all end holds
    → IsAll core with_core first held result end holds
counts_all core with_core first held all end holds (Ok count) same w =
    subst (λ (n : ℕ). WrittenAll core with_core first held n end holds) (sym same) w
counts_all core with_core first held all end holds (Err why) same w = tt

pub all_sends : {E X : Type 0} (core : E → Core) (with_core : E → Core → E) (first : E) (held : Option (List ℕ))
    (end : E) (holds : Option (List ℕ)) (result : Result ℕ X)
    → IsAll core with_core first held result end holds → OnOk result (Sends (core first) held (core end) holds)
all_sends core with_core first held end holds (Ok count) w = w.sends
all_sends core with_core first held end holds (Err why) w = tt

pub all_counted : {E X : Type 0} (core : E → Core) (with_core : E → Core → E) (first : E) (held : Option (List ℕ))
    (end : E) (holds : Option (List ℕ)) (result : Result ℕ X)
    → IsAll core with_core first held result end holds
    → IfOk result (λ count. count ≡ length (waiting_bytes (core first).outbox))
all_counted core with_core first held end holds (Ok count) w = w.as_many
all_counted core with_core first held end holds (Err why) w = tt

-- ---- bytes given to an end are read

abbrev pub not_read : ReadAll
not_read = record { pieces = 0; part = no_room; stop = Some Failed }

reads_fed : {S R : Type 0} (e : Reading S R) → IsCoreOf e.core e.with_core
    → (fed end : S) (reports : List R) (answer : ReadAll) (failed : Bool) → (e.core fed).failed ≡ failed
    → answer.stop ≡ None
    → ((e.core fed).failed ≡ false → ReadsAll e fed [] reports answer end)
    → ((e.core fed).failed ≡ true → answer ≡ not_read) → Reads e fed reports None end
reads_fed e laws fed end reports answer true f stop read failed =
    absurd (cc (ap (λ (a : ReadAll). a.stop) (failed f), stop))
reads_fed e laws fed end reports answer false f stop read failed =
    subst (λ s. Reads e s reports None end) (arrived_nothing e laws fed)
    (subst (λ (o : Option NextError). ReadsUntil e (with_arrivals e fed [] []) reports o end) stop (read f).reads)

-- all of them fit, and nothing stops the reading
pub delivered : {S R : Type 0} (e : Reading S R) → IsCoreOf e.core e.with_core
    → (state : S) (bytes : List ℕ) (n m : ℕ) (fed end : S) (reports : List R) (answer : ReadAll) → length bytes ≤ n
    → fed ≡ with_arrivals e state (take n bytes) (take m []) → answer.stop ≡ None
    → ((e.core fed).failed ≡ false → ReadsAll e fed [] reports answer end)
    → ((e.core fed).failed ≡ true → answer ≡ not_read)
    → (all : List R) × Reads e (with_arrivals e state bytes []) all None end
delivered e laws state bytes n m fed end reports answer fits is stop read failed =
    let whole : fed ≡ with_arrivals e state bytes [] = is
    ∙ ap (λ (xs : List ℕ). with_arrivals e state xs (take m [])) (take_all n bytes fits)
    ∙ ap (λ (xs : List ℕ). with_arrivals e state bytes xs) (take_all m [] (omega arith)) in (
      reports,
      subst (λ s. Reads e s reports None end) whole
          (reads_fed e laws fed end reports answer (e.core fed).failed refl stop read failed),
    )
