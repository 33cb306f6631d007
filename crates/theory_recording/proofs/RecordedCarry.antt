-- Which messages in flight a carry brings, and how they are recorded.
use Rattle.std.proofs.Common.{◌≡◌, ℕ, ◌+◌, ◌≤◌, false, List, [], ◌∷◌, ◌++◌, length, length-append}
use Rattle.std.proofs.Common.{drop, map, refl, sym, ap, subst, ◌∙◌, arith}
use Rattle.std.proofs.lemmas.List.{append_assoc, map-append, drop_at, drop-append-le}
use Rattle.wl_sigs.specs.Tables.{Interface}
use Rattle.wl_message.specs.declared.limit.Limit.{Limit}
use Rattle.wl_message.specs.Cut.{front, More, IsMessage}
use Rattle.wl_message.specs.Arrived.{Arrived}
use Rattle.wl_message.specs.Outgoing as boxes
use Rattle.wl_message.specs.Outgoing.{Outgoing, all_bytes, all_tokens}
use Rattle.wl_recording.specs.declared.piece.Direction.{Direction}
use Rattle.wl_recording.specs.Piece.{Piece}
use Rattle.wl_check.specs.Merged.{Cutting, cut, cutting, framed, same_direction, stream_of, piece_tokens}
use Rattle.wl_check.specs.Session.{Judged, judged_after}
use Rattle.wl_check.proofs.LastBytes.{why}
use Rattle.wl_check.proofs.MessagesOfStream.{new_spans, fed_good, place_within}
use Rattle.wl_check.proofs.PiecesOfCarry.{Brings}
use Rattle.theory_connection.specs.World.{Each}
use Rattle.theory_connection.specs.Stands.{InFlight}
use Rattle.theory_connection.proofs.WholeInFlight.{each_front}
use Rattle.theory_connection.proofs.Channels.{all_bytes_more, all_tokens_more}
use Rattle.theory_recording.specs.Recorded.{Recorded}
use Rattle.theory_recording.specs.Follows.{knowledge}
use Rattle.theory_recording.specs.Linked.{judgements}
use Rattle.theory_recording.proofs.CompletedMessages.{KeepsOne, walk}

-- what follows the recorded messages is a part of the next
pub part_more : (limit : ℕ) (d : Direction) (ps : List Piece) (inbox : Arrived) (taken : ℕ)
    (seen : List boxes.QueuedMessage)
    (r : Recorded limit d ps inbox taken seen) → front limit r.part ≡ More
part_more limit d ps inbox taken seen r =
    let s = stream_of d ps in
    ap (front limit) (sym r.rest) ∙ why limit (length s) s 0 (omega arith) (omega arith) r.sound

-- ---- what is in flight after the recorded messages

same_rest : (xs ys zs : List ℕ) → xs ++ ys ≡ xs ++ zs → ys ≡ zs
same_rest xs ys zs e = sym (drop_at xs ys (length xs) refl) ∙ ap (drop (length xs)) e ∙ drop_at xs zs (length xs) refl

-- these messages, of those not yet recorded, are begun
pub record Begun (limit : ℕ) (seen later others : List boxes.QueuedMessage) (begun : List boxes.QueuedMessage)
    (x left : List ℕ) : Type 0 where
  pub rest : List boxes.QueuedMessage
  pub begun_is : begun ≡ seen ++ rest
  pub later_is : later ≡ rest ++ others
  pub bytes : x ++ left ≡ all_bytes rest
  pub whole : Each (λ m. IsMessage limit m.bytes) rest

begun_behind : (limit : ℕ) (seen later begun others : List boxes.QueuedMessage) (x left : List ℕ)
    → seen ++ later ≡ begun ++ others → (all_bytes seen ++ x) ++ left ≡ all_bytes begun
    → Each (λ m. IsMessage limit m.bytes) (seen ++ later) → Begun limit seen later others begun x left
begun_behind limit [] later begun others x left e b w = record {
  rest = begun;
  begun_is = refl;
  later_is = e;
  bytes = b;
  whole = each_front (λ (m : boxes.QueuedMessage). IsMessage limit m.bytes) begun others
      (subst (Each (λ m. IsMessage limit m.bytes)) e w);
}
begun_behind limit (s ∷ seen) later [] others x left e b w =
    let l = ap length b in
    let size = w.0.size.header in
    absurd (omega (
      arith,
      l,
      size,
      length-append ((s.bytes ++ all_bytes seen) ++ x) left,
      length-append
          (s.bytes ++ all_bytes seen) x,
      length-append s.bytes (all_bytes seen),
    ))
begun_behind limit (s ∷ seen) later (m ∷ begun) others x left e b w =
    let first : m ≡ s = cc e in
    let rest : seen ++ later ≡ begun ++ others = cc e in
    let parted : s.bytes ++ ((all_bytes seen ++ x) ++ left) ≡ s.bytes ++ all_bytes begun =
    sym (ap (λ (l : List ℕ). l ++ left) (append_assoc s.bytes (all_bytes seen) x)
    ∙ append_assoc s.bytes (all_bytes seen ++ x) left) ∙ b
    ∙ ap (λ (y : boxes.QueuedMessage). y.bytes ++ all_bytes begun) first in
    let r = begun_behind limit seen later begun others x left rest
    (same_rest s.bytes ((all_bytes seen ++ x) ++ left) (all_bytes begun) parted) w.1 in
    record {
      rest = r.rest;
      begun_is = λ i. first i ∷ r.begun_is i;
      later_is = r.later_is;
      bytes = r.bytes;
      whole = r.whole;
    }

-- ---- the other direction

-- a carry in one direction leaves what was recorded in the other
pub recorded_other : (limit : ℕ) (tables : List Interface) (d y : Direction) (ps qs : List Piece) (bytes : List ℕ)
    (n : ℕ) (inbox : Arrived) (seen : List boxes.QueuedMessage) → Brings limit tables d ps qs bytes n
    → same_direction d y ≡ false → (knowledge tables (judgements limit tables qs)).taken y
    ≡ (knowledge tables (judgements limit tables ps)).taken y
    → Recorded limit y ps inbox ((knowledge tables (judgements limit tables ps)).taken y) seen
    → Recorded limit y qs inbox ((knowledge tables (judgements limit tables qs)).taken y) seen
recorded_other limit tables d y ps qs bytes n inbox seen b apart taken r =
    let stream = b.other y apart in
    record {
      same_limit = r.same_limit;
      part = r.part;
      sound = ap (λ (s : List ℕ). (cut limit s).has_bad_size) stream ∙ r.sound;
      rest = ap (λ (s : List ℕ). drop (cut limit s).place s) stream ∙ r.rest;
      waits = r.waits;
      tokens = (let a = r.tokens in let c = b.other_count y apart in omega (arith, a, c, taken));
    }

-- ---- a carry

module _ {M : Type 0} (sp : M → boxes.QueuedMessage) (limit : ℕ) (tables : List Interface) (d : Direction)
    (ps qs : List Piece) (bytes : List ℕ) (n : ℕ) (F : List Judged → List M → List M → Type 0) where
  -- what a carry brings is recorded, and the messages that it completes keep all rules
  pub record CarryRecorded (inbox : Arrived) (seen later : List M) : Type 0 where
    pub fresh : List M
    pub still : List M
    pub later_is : later ≡ fresh ++ still
    pub own : Recorded limit d qs inbox ((knowledge tables (judgements limit tables qs)).taken d)
        (map sp (seen ++ fresh))
    pub other : (y : Direction) → same_direction d y ≡ false
        → (knowledge tables (judgements limit tables qs)).taken y
        ≡ (knowledge tables (judgements limit tables ps)).taken y
    pub next : F (judgements limit tables qs) (seen ++ fresh) still

  -- This holds if each single message keeps all rules.
  pub carry_recorded : (from : Outgoing) (inbox inbox' : Arrived) (seen later : List M)
      → Brings limit tables d ps qs bytes n → KeepsOne sp limit tables d (λ x. stream_of x qs) (piece_tokens d ps + n) F
      → Recorded limit d ps inbox ((knowledge tables (judgements limit tables ps)).taken d) (map sp seen)
      → F (judgements limit tables ps) seen later → InFlight from inbox' (map sp (seen ++ later))
      → inbox'.bytes ≡ inbox.bytes ++ bytes → length inbox'.tokens ≡ length inbox.tokens + n
      → inbox'.limit ≡ inbox.limit → CarryRecorded inbox' seen later
  carry_recorded from inbox inbox' seen later brings one r f flight more_bytes more_tokens same_limit =
      let new_limit : inbox'.limit.bytes ≡ limit = ap (λ (l : Limit). l.bytes) same_limit ∙ r.same_limit in
      let whole_ones : Each (λ m. IsMessage limit m.bytes) (map sp (seen ++ later)) =
      subst (λ (l : ℕ). Each (λ m. IsMessage l m.bytes) (map sp (seen ++ later))) new_limit flight.whole in
      let s = stream_of d ps in
      let streams : Direction → List ℕ = λ x. stream_of x qs in
      let t = piece_tokens d ps + n in
      let place = (cut limit s).place in
      let e = judgements limit tables ps in
      let x = r.part ++ bytes in
      let within : place ≤ length s = place_within limit (length s) s 0 (omega arith) in
      let inside : place ≤ length (streams d) = (let l = ap length brings.own
      in omega (arith, within, l, length-append s bytes)) in
      let at : drop place (streams d) ≡ x = ap (drop place) brings.own ∙ drop-append-le place s bytes within
      ∙ ap (λ (l : List ℕ). l ++ bytes) r.rest in
      let waits : inbox'.bytes ≡ all_bytes (map sp seen) ++ x =
      more_bytes ∙ ap (λ (l : List ℕ). l ++ bytes) r.waits
      ∙ append_assoc (all_bytes (map sp seen)) r.part bytes in
      let all = map-append sp seen later in
      let g = begun_behind limit (map sp seen) (map sp later) flight.begun from.messages x from.left
      (sym all ∙ flight.all) (ap (λ (l : List ℕ). l ++ from.left) (sym waits) ∙ flight.bytes)
      (subst (Each (λ m. IsMessage limit m.bytes)) all whole_ones) in
      let waiting : length inbox'.tokens ≡ length (all_tokens (map sp seen)) + length (all_tokens g.rest) =
      (let a = ap length (flight.tokens ∙ ap all_tokens g.begun_is ∙ all_tokens_more (map sp seen) g.rest)
      in omega (arith, a, length-append (all_tokens (map sp seen)) (all_tokens g.rest))) in
      let account : (knowledge tables e).taken d + length (all_tokens g.rest) ≡ t =
      (let a = r.tokens in omega (arith, a, waiting, more_tokens)) in
      let w = walk sp limit tables d streams t F one later g.rest from.messages e seen place x from.left f at inside
      g.later_is g.bytes g.whole (omega (arith, account)) in
      let c = cutting limit (length (streams d)) (streams d) place in
      let spans : drop (length (cut limit s).spans) (cut limit (s ++ bytes)).spans ≡ c.spans =
      new_spans limit s bytes ∙ rw r.sound (ap (λ (l : List ℕ). (cutting limit (length l) l place).spans)
      (sym brings.own)) in
      let judged_is : judgements limit tables qs ≡ judged_after limit tables streams e (map (framed d t) c.spans) =
      brings.judged ∙ ap (λ ms. judged_after limit tables streams e (map (framed d t) ms)) spans in
      let whole : cut limit (streams d) ≡ record {
        spans = (cut limit s).spans ++ c.spans;
        place = c.place;
        has_bad_size = c.has_bad_size;
      } =
      ap (cut limit) brings.own ∙ fed_good limit s bytes r.sound
      ∙ ap (λ (l : List ℕ). (let y = cutting limit (length l) l place
      in record { spans = (cut limit s).spans ++ y.spans; place = y.place; has_bad_size = y.has_bad_size })) (sym brings.own) in
      record {
        fresh = w.fresh;
        still = w.still;
        later_is = w.later_is;
        own = record {
          same_limit = new_limit;
          part = w.part;
          sound = ap (λ (y : Cutting). y.has_bad_size) whole ∙ w.sound;
          rest = ap (λ (y : Cutting). drop y.place (streams d)) whole ∙ w.rest;
          waits = waits ∙ ap (λ (l : List ℕ). all_bytes (map sp seen) ++ l) (sym w.bytes)
              ∙ sym (append_assoc (all_bytes (map sp seen)) (all_bytes (map sp w.fresh)) w.part)
              ∙ ap (λ (l : List ℕ). l ++ w.part) (sym (all_bytes_more (map sp seen) (map sp w.fresh))
              ∙ ap all_bytes (sym (map-append sp seen w.fresh)));
          tokens =
              let a : (knowledge tables (judgements limit tables qs)).taken d
              ≡ (knowledge tables e).taken d + length (all_tokens (map sp w.fresh)) =
              ap (λ (j : List Judged). (knowledge tables j).taken d) judged_is ∙ w.own in
              let b : length (all_tokens (map sp (seen ++ w.fresh)))
              ≡ length (all_tokens (map sp seen)) + length (all_tokens (map sp w.fresh)) =
              (let y = ap (λ (l : List boxes.QueuedMessage). length (all_tokens l)) (map-append sp seen w.fresh)
              in let z = ap length (all_tokens_more (map sp seen) (map sp w.fresh)) in
              omega (arith, y, z, length-append (all_tokens (map sp seen)) (all_tokens (map sp w.fresh)))) in
              let count = brings.own_count in
              omega (arith, a, b, account, waiting, count);
        };
        other = λ y apart. ap (λ (j : List Judged). (knowledge tables j).taken y) judged_is ∙ w.other y apart;
        next = subst (λ (j : List Judged). F j (seen ++ w.fresh) w.still) (sym judged_is) w.next;
      }
