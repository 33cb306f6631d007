-- A message that is read was recorded whole.
use Rattle.std.proofs.Common.{◌≡◌, ℕ, ◌≤◌, List, [], ◌∷◌, ◌++◌, map, length, drop, refl, sym, ap}
use Rattle.std.proofs.Common.{subst, ◌∙◌, arith, length-append}
use Rattle.std.proofs.lemmas.List.{append_assoc, drop_at, length-drop}
use Rattle.wl_message.specs.Cut.{front, More, Whole}
use Rattle.wl_message.specs.Arrived.{Arrived, without_first, in_front}
use Rattle.wl_message.specs.Outgoing as boxes
use Rattle.wl_message.specs.Outgoing.{Outgoing, all_bytes, all_tokens}
use Rattle.wl_recording.specs.declared.piece.Direction.{Direction}
use Rattle.wl_recording.specs.Piece.{Piece}
use Rattle.theory_connection.specs.Stands.{InFlight}
use Rattle.theory_connection.proofs.Stands.{first_read}
use Rattle.theory_recording.specs.Recorded.{Recorded}
use Rattle.theory_recording.specs.Linked.{RecordedOf}
use Rattle.theory_recording.proofs.RecordedCarry.{part_more}

-- ---- the first message in flight was recorded, if a whole message waits

pub record SeenFirst {X : Type 0} (m : X) (ms seen later : List X) : Type 0 where
  pub rest : List X
  pub seen_is : seen ≡ m ∷ rest
  pub others : ms ≡ rest ++ later

pub seen_first : {X : Type 0} (spell : X → boxes.QueuedMessage) (l : ℕ) (d : Direction) (ps : List Piece)
    (inbox : Arrived)
    (taken n : ℕ) (m : X) (ms seen later : List X) → m ∷ ms ≡ seen ++ later
    → Recorded l d ps inbox taken (map spell seen) → in_front inbox ≡ Whole n → SeenFirst m ms seen later
seen_first spell l d ps inbox taken n m ms [] later e r whole =
    let none : in_front inbox ≡ More = ap (λ (limit : ℕ). front limit inbox.bytes) r.same_limit ∙ ap (front l) r.waits
    ∙ part_more l d ps inbox taken [] r in
    absurd (cc (none, whole))
seen_first spell l d ps inbox taken n m ms (x ∷ rest) later e r whole =
    let first : x ≡ m = cc e in
    let others : ms ≡ rest ++ later = cc e in
    record { rest = rest; seen_is = ap (λ (y : _). y ∷ rest) first; others = others }

-- what is recorded and waits after the first message is read
pub read_on : (l : ℕ) (d : Direction) (ps : List Piece) (inbox : Arrived) (taken n t : ℕ) (first : boxes.QueuedMessage)
    (rest : List boxes.QueuedMessage) → Recorded l d ps inbox taken (first ∷ rest)
    → n ≡ length first.bytes → t ≡ length first.tokens → t ≤ length inbox.tokens
    → Recorded l d ps (without_first inbox n t) taken rest
read_on l d ps inbox taken n t first rest r size own there = record {
  same_limit = r.same_limit;
  part = r.part;
  sound = r.sound;
  rest = r.rest;
  waits = ap (drop n) (r.waits ∙ append_assoc first.bytes (all_bytes rest) r.part)
      ∙ drop_at first.bytes (all_bytes rest ++ r.part) n (sym size);
  tokens = let all = r.tokens in omega (
    arith,
    all,
    own,
    there,
    length-append first.tokens
        (all_tokens rest),
    length-drop t inbox.tokens,
  );
}

-- The first message in flight is read: it was recorded, and what was recorded after it still is.
pub record RestSeen {M : Type 0} (sp : M → boxes.QueuedMessage) (l : ℕ) (d : Direction) (ps : List Piece)
    (inbox : Arrived)
    (taken n : ℕ) (m : M) (ms seen later : List M) : Type 0 where
  pub rest : List M
  pub seen_is : seen ≡ m ∷ rest
  pub others : ms ≡ rest ++ later
  pub recorded : Recorded l d ps (without_first inbox n (length (sp m).tokens)) taken (map sp rest)

pub rest_seen : {M : Type 0} (sp : M → boxes.QueuedMessage) (l : ℕ) (d : Direction) (ps : List Piece) (from : Outgoing)
    (inbox : Arrived) (taken n : ℕ) (m : M) (ms : List M) → InFlight from inbox (map sp (m ∷ ms))
    → in_front inbox ≡ Whole n
    → (r : RecordedOf sp l d ps inbox taken (m ∷ ms)) → RestSeen sp l d ps inbox taken n m ms r.seen r.later
rest_seen sp l d ps from inbox taken n m ms flight whole r =
    let q = first_read from inbox (sp m) (map sp ms) n flight whole in
    let seen = seen_first sp l d ps inbox taken n m ms r.seen r.later r.is r.recorded whole in
    record {
      rest = seen.rest;
      seen_is = seen.seen_is;
      others = seen.others;
      recorded = read_on l d ps inbox taken n (length (sp m).tokens) (sp m) (map sp seen.rest)
          (subst (λ (xs : List _). Recorded l d ps inbox taken (map sp xs)) seen.seen_is r.recorded) q.size refl
          q.enough;
    }
