-- What a carry moves, and what it leaves.
use Rattle.std.proofs.Common.{◌≡◌, ℕ, ◌<◌, ◌≤◌, ◌-◌, Bool, true, false, List, [], ◌∷◌, ◌++◌, length}
use Rattle.std.proofs.Common.{take, drop, min, replicate, refl, sym, ap, subst, ◌∙◌, arith, OnOk}
use Rattle.std.proofs.Common.{OnErr, is_ok}
use Rattle.std.specs.declared.alloc.AllocError.{AllocError}
use Rattle.std.specs.declared.result.Result.{Result}
use Rattle.std.specs.declared.result.Result.TheVariants.{Ok, Err}
use Rattle.std.proofs.lemmas.List.{length-take, length-replicate, take_all}
use Rattle.wl_message.specs.declared.amounts.Amounts.{Amounts}
use Rattle.wl_message.specs.Outgoing.{QueuedMessage, Outgoing, goes, begun, newly_begun, all_tokens}
use Rattle.wl_message.specs.Outgoing.{waiting_bytes, waiting_tokens}
use Rattle.wl_message.proofs.WhatGoes.{begun_none, goes_goes}
use Rattle.wl_recording.specs.declared.piece.Direction.{Direction}
use Rattle.wl_recording.specs.declared.piece.Direction.TheVariants.{ToServer, ToClient}
use Rattle.wl_recording.specs.Piece.{Piece, passed, last_len}
use Rattle.wl_recording.proofs.FillLemmas.{last_len-passed, filled_passed, written_over}
use Rattle.wl_connection.specs.Core.{Core, in_room, feeds, with_gone, with_arrived}
use Rattle.wl_client.specs.State as client
use Rattle.wl_server.specs.State as server
use Rattle.theory_connection.specs.Pair.{PairState, carries, carried_bytes, carried_tokens}
use Rattle.theory_connection.specs.Pair.{after_carry_to_server, after_carry_to_client, Carries}
use Rattle.theory_connection.specs.Pair.{Moved, Memory, moved, no_memory}
use Rattle.theory_connection.proofs.Carries.{carry_fits, carry_whole, begun_few}
use Rattle.wl_session.specs.Room.{HoldsInbox, filled}

-- ---- how much is carried

pub goes_is : (from to : Core) (most len nb nt : ℕ) (room : Amounts) → room ≡ in_room to → len ≡ min most room.bytes
    → nb ≡ len → nt ≡ room.tokens → goes from.outbox nb nt ≡ carries from to most
goes_is from to most len nb nt room r l b t =
    let bytes : nb ≡ min most (in_room to).bytes = b ∙ l ∙ ap (λ (x : Amounts). min most x.bytes) r in
    let tokens : nt ≡ (in_room to).tokens = t ∙ ap (λ (x : Amounts). x.tokens) r in
    λ i. goes from.outbox (bytes i) (tokens i)

pub record Room (bytes tokens : ℕ) (room : Amounts) : Type 0 where
  pub bytes_fit : room.bytes ≤ bytes
  pub tokens_fit : room.tokens ≤ tokens

room_at : (bytes tokens : ℕ) (core : Core) (b : Bool) → core.failed ≡ b → HoldsInbox bytes tokens core.inbox
    → Room bytes tokens (in_room core)
room_at bytes tokens core true f h = rw f (record { bytes_fit = omega arith; tokens_fit = omega arith })
room_at bytes tokens core false f h = let x = h.bytes_fit in let y = h.tokens_fit
    in rw f (record { bytes_fit = omega (arith, x); tokens_fit = omega (arith, y) })

pub room_held : (bytes tokens : ℕ) (core : Core) (room : Amounts) → room ≡ in_room core
    → HoldsInbox bytes tokens core.inbox
    → Room bytes tokens room
room_held bytes tokens core room r h = subst (λ (x : Amounts). Room bytes tokens x) (sym r)
    (room_at bytes tokens core core.failed refl h)

pub few_tokens : (from to : Core) (most bytes tokens : ℕ) (going : Amounts) → going ≡ carries from to most
    → HoldsInbox bytes tokens to.inbox → tokens ≤ 65536 → going.tokens ≤ 65536
few_tokens from to most bytes tokens going g h few =
    let k = (carry_fits from to most).tokens in
    let r = (room_held bytes tokens to (in_room to) refl h).tokens_fit in
    let e = ap (λ (t : Amounts). t.tokens) g in
    omega (arith, k, r, e, few)

none_begun : (o : Outgoing) (n : ℕ) → n ≡ 0 → length (all_tokens (newly_begun o n)) ≡ 0
none_begun o n h =
    let z : n - length o.left ≡ 0 = omega (arith, h) in
    ap (λ (k : ℕ). length (all_tokens (begun k o.messages))) z
    ∙ ap (λ (ms : List QueuedMessage). length (all_tokens ms)) (begun_none o.messages)

-- no token is carried without a byte
pub together : (from to : Core) (most : ℕ) (going : Amounts) → going ≡ carries from to most → going.bytes ≡ 0
    → going.tokens ≡ 0
together from to most going g h =
    let k = goes_goes from.outbox (min most (in_room to).bytes) (in_room to).tokens in
    let b : (carries from to most).bytes ≡ 0 = sym (ap (λ (t : Amounts). t.bytes) g) ∙ h in
    ap (λ (t : Amounts). t.tokens) g ∙ k.with_tokens ∙ none_begun from.outbox (carries from to most).bytes b

-- everything that is carried is taken in
pub fed_whole : (from to : Core) (most : ℕ) (t : Amounts) → t ≡ carries from to most
    → feeds to (carried_bytes from t) (carried_tokens from t) ≡ t
fed_whole from to most t e = subst (λ (x : Amounts). feeds to (carried_bytes from x) (carried_tokens from x)
    ≡ x)
    (sym e) (carry_whole from to most)

-- ---- what is recorded

gone_len : (from to : Core) (most : ℕ) (t : Amounts) → t ≡ carries from to most
    → length (carried_bytes from t) ≡ t.bytes
gone_len from to most t e = subst (λ (x : Amounts). length (carried_bytes from x) ≡ x.bytes) (sym e)
    (carry_fits from to most).bytes_there

-- the room that was made is as large as what is carried
pub last_is : (from to : Core) (most : ℕ) (before prepared : List Piece) (direction : Direction) (t going : Amounts)
    → t ≡ carries from to most → going ≡ carries from to most
    → prepared ≡ before ++ passed direction (replicate going.bytes 0) going.tokens → 0 < t.bytes
    → t.bytes ≡ last_len prepared
last_is from to most before prepared direction t going e g p some =
    let same : going.bytes ≡ t.bytes = ap (λ (x : Amounts). x.bytes) (g ∙ sym e) in
    let zeros = length-replicate {A = ℕ} going.bytes 0 in
    let last = last_len-passed before direction (replicate going.bytes 0) going.tokens
    (omega (arith, zeros, same, some)) in
    sym same ∙ sym zeros ∙ sym last ∙ ap last_len (sym p)

-- zeros, overwritten by the bytes, if there are any
filled_is : (before : List Piece) (direction : Direction) (bytes : List ℕ) (tokens : ℕ)
    → (length bytes ≡ 0 → tokens ≡ 0)
    → filled (before ++ passed direction (replicate (length bytes) 0) tokens) bytes
    ≡ before ++ passed direction bytes tokens
filled_is before direction [] tokens h = refl
filled_is before direction (byte ∷ bytes) tokens h = filled_passed before direction (byte ∷ bytes) tokens (omega arith)

pub recorded : (from to : Core) (most : ℕ) (before prepared now : List Piece) (direction : Direction)
    (t going : Amounts)
    → t ≡ carries from to most → going ≡ carries from to most
    → prepared ≡ before ++ passed direction (replicate going.bytes 0) going.tokens
    → now ≡ filled prepared (carried_bytes from t)
    → now ≡ before ++ passed direction (carried_bytes from (carries from to most)) (carries from to most).tokens
recorded from to most before prepared now direction t going e g p f =
    let c = carries from to most in
    let whole = carried_bytes from c in
    let l : length whole ≡ c.bytes = gone_len from to most c refl in
    let zeros : prepared ≡ before ++ passed direction (replicate (length whole) 0) c.tokens =
    p ∙ (λ i. before ++ passed direction (replicate (g i).bytes 0) (g i).tokens)
    ∙ ap (λ (n : ℕ). before ++ passed direction (replicate n 0) c.tokens) (sym l) in
    f ∙ (λ i. filled (zeros i) (carried_bytes from (e i)))
    ∙ filled_is before direction whole c.tokens (λ h. together from to most c refl (sym l ∙ h))

-- ---- the move

pub refused_memory : (taken going : Amounts) (p after : PairState) (recording : List Piece)
    (result : Result (Unit {0}) AllocError) → going ≡ taken → is_ok result ≡ false
    → OnErr result (recording ≡ p.recording) → OnErr result (0 < going.bytes)
    → Carries taken p after Memory (record p { recording = recording })
refused_memory taken going p after recording (Ok x) g k same some = absurd (cc k)
refused_memory taken going p after recording (Err e) g k same some =
    subst (λ (r : List Piece). Carries taken p after Memory (record p { recording = r })) (sym same)
    (no_memory (subst (λ (t : Amounts). 0 < t.bytes) g some))

pub on_ok : {X E P : Type 0} (r : Result X E) → is_ok r ≡ true → OnOk r P → P
on_ok (Ok x) h p = p
on_ok (Err e) h p = absurd (cc h)

pub moved_to_server : (p : PairState) (most : ℕ) (t going : Amounts) (c : client.State) (s : server.State)
    (recording : List Piece)
    → t ≡ carries p.client.core p.server.core most → going ≡ carries p.client.core p.server.core most
    → c ≡ client.with_core p.client (with_gone p.client.core t.bytes)
    → s ≡ server.with_core p.server (with_arrived p.server.core (carried_bytes p.client.core t)
    (carried_tokens p.client.core t))
    → recording ≡ p.recording ++ passed ToServer (carried_bytes p.client.core
    (carries p.client.core p.server.core most)) (carries p.client.core p.server.core most).tokens
    → Carries (carries p.client.core p.server.core most) p
    (after_carry_to_server p (carries p.client.core p.server.core most))
    (Moved going)
    (record { client = c; server = s; recording = recording; ended_at = p.ended_at })
moved_to_server p most t going c s recording h g e f r =
    let all = carries p.client.core p.server.core most in
    let fed : all ≡ going = sym g in
    let gone : client.with_core p.client (with_gone p.client.core all.bytes) ≡ c =
    sym (e ∙ ap (λ (x : Amounts). client.with_core p.client (with_gone p.client.core x.bytes)) h) in
    let come : server.with_core p.server (with_arrived p.server.core (carried_bytes p.client.core all)
    (carried_tokens p.client.core all)) ≡ s =
    sym (f ∙ ap (λ (x : Amounts). server.with_core p.server
    (with_arrived p.server.core (carried_bytes p.client.core x) (carried_tokens p.client.core x))) h) in
    let left : after_carry_to_server p all ≡ record {
      client = c;
      server = s;
      recording = recording;
      ended_at = p.ended_at;
    } = λ i. record {
      client = gone i;
      server = come i;
      recording = sym r i;
      ended_at =
          p.ended_at;
    } in
    subst (λ (x : Amounts). Carries all p (after_carry_to_server p all) (Moved x)
    (record { client = c; server = s; recording = recording; ended_at = p.ended_at })) fed
    (subst (λ (q : PairState). Carries all p (after_carry_to_server p all) (Moved all) q) left moved)

pub moved_to_client : (p : PairState) (most : ℕ) (t going : Amounts) (c : client.State) (s : server.State)
    (recording : List Piece)
    → t ≡ carries p.server.core p.client.core most → going ≡ carries p.server.core p.client.core most
    → c ≡ client.with_core p.client (with_arrived p.client.core (carried_bytes p.server.core t)
    (carried_tokens p.server.core t))
    → s ≡ server.with_core p.server (with_gone p.server.core t.bytes)
    → recording ≡ p.recording ++ passed ToClient (carried_bytes p.server.core
    (carries p.server.core p.client.core most)) (carries p.server.core p.client.core most).tokens
    → Carries (carries p.server.core p.client.core most) p
    (after_carry_to_client p (carries p.server.core p.client.core most))
    (Moved going)
    (record { client = c; server = s; recording = recording; ended_at = p.ended_at })
moved_to_client p most t going c s recording h g e f r =
    let all = carries p.server.core p.client.core most in
    let fed : all ≡ going = sym g in
    let come : client.with_core p.client (with_arrived p.client.core (carried_bytes p.server.core all)
    (carried_tokens p.server.core all)) ≡ c =
    sym (e ∙ ap (λ (x : Amounts). client.with_core p.client
    (with_arrived p.client.core (carried_bytes p.server.core x) (carried_tokens p.server.core x))) h) in
    let gone : server.with_core p.server (with_gone p.server.core all.bytes) ≡ s =
    sym (f ∙ ap (λ (x : Amounts). server.with_core p.server (with_gone p.server.core x.bytes)) h) in
    let left : after_carry_to_client p all ≡ record {
      client = c;
      server = s;
      recording = recording;
      ended_at = p.ended_at;
    } = λ i. record {
      client = come i;
      server = gone i;
      recording = sym r i;
      ended_at =
          p.ended_at;
    } in
    subst (λ (x : Amounts). Carries all p (after_carry_to_client p all) (Moved x)
    (record { client = c; server = s; recording = recording; ended_at = p.ended_at })) fed
    (subst (λ (q : PairState). Carries all p (after_carry_to_client p all) (Moved all) q) left moved)

-- ---- handing over

pub record Lengths (from : Core) (t : Amounts) : Type 0 where
  pub bytes : length (carried_bytes from t) ≡ t.bytes
  pub tokens : length (carried_tokens from t) ≡ t.tokens

goes_lengths : (from : Core) (nb nt : ℕ) → Lengths from (goes from.outbox nb nt)
goes_lengths from nb nt =
    let g = goes_goes from.outbox nb nt in
    let t = goes from.outbox nb nt in
    record {
      bytes = let h = g.may.there in omega (arith, h, length-take t.bytes (waiting_bytes from.outbox));
      tokens = let e = g.with_tokens in let few = begun_few from.outbox t.bytes
          in omega (arith, e, few, length-take t.tokens (waiting_tokens from.outbox));
    }

pub lengths_are : (from : Core) (nb nt : ℕ) (t : Amounts) → t ≡ goes from.outbox nb nt → Lengths from t
lengths_are from nb nt t e = subst (λ (x : Amounts). Lengths from x) (sym e) (goes_lengths from nb nt)

-- the places that were written have the first n values
pub written : (n : ℕ) (waiting places before : List ℕ) → length (take n waiting) ≡ n
    → places ≡ take n waiting ++ drop n before → take n places ≡ take n waiting
written n waiting places before l p = ap (take n) p ∙ written_over (take n waiting) (drop n before) n l

pub arrived_is : (from to : Core) (t : Amounts) (fed : Amounts) (bytes tokens : List ℕ) → Lengths from t
    → feeds to (carried_bytes from t) (carried_tokens from t) ≡ t
    → bytes ≡ carried_bytes from t → tokens ≡ carried_tokens from t → fed ≡ feeds to bytes tokens
    → with_arrived to (take fed.bytes bytes) (take fed.tokens tokens)
    ≡ with_arrived to (carried_bytes from t) (carried_tokens from t)
arrived_is from to t fed bytes tokens l all b k f =
    let whole : fed ≡ t = f ∙ (λ i. feeds to (b i) (k i)) ∙ all in
    let bytes_whole : take fed.bytes bytes ≡ carried_bytes from t =
    (λ i. take (whole i).bytes (b i)) ∙ take_all t.bytes (carried_bytes from t)
    (let h = l.bytes in omega (arith, h)) in
    let tokens_whole : take fed.tokens tokens ≡ carried_tokens from t =
    (λ i. take (whole i).tokens (k i)) ∙ take_all t.tokens (carried_tokens from t)
    (let h = l.tokens in omega (arith, h)) in
    λ i. with_arrived to (bytes_whole i) (tokens_whole i)
