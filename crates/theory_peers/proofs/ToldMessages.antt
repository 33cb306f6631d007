-- What a server gave out and what waits in its outbox are the messages that it wrote.
use Rattle.std.proofs.Common.{◌≡◌, ℕ, ◌+◌, ◌-◌, ◌<◌, ◌≤◌, false, List, [], ◌∷◌, ◌++◌, length, length-append, drop, take}
use Rattle.std.proofs.Common.{sym, ap, subst, ◌∙◌, arith}
use Rattle.std.proofs.lemmas.List.{append_assoc}
use Rattle.wl_message.specs.Cut.{IsMessage}
use Rattle.wl_message.specs.Outgoing.{Outgoing, QueuedMessage, after_taking, all_bytes, all_tokens, newly_begun, waiting_bytes}
use Rattle.wl_recording.specs.declared.piece.Direction.TheVariants.{ToClient}
use Rattle.wl_recording.specs.Piece.{Piece}
use Rattle.wl_check.specs.Merged.{cut, stream_of, piece_tokens}
use Rattle.theory_connection.specs.World.{Each}
use Rattle.theory_connection.proofs.Channels.{all_bytes_more, all_tokens_more, gone}
use Rattle.theory_connection.proofs.WholeInFlight.{each_front, each_more, each_rest}
use Rattle.theory_peers.specs.ServerStreams.{IsCutInTwo}
use Rattle.theory_peers.proofs.PassingPieces.{HaveTokens, begun_last, bytes_passing, bytes_passing_more, have_join}
use Rattle.theory_peers.proofs.PassingPieces.{have_last, have_more, supply, supply_cut, supply_more, tokens_passing}
use Rattle.theory_peers.proofs.PassingPieces.{tokens_passing_more}

-- These messages were written and are not wholly recorded: a part of the first is recorded, pieces
-- of them are on their way, and the rest waits in the outbox. Their tokens are there in time.
pub record TellsWell (limit : ℕ) (pieces leaving : List Piece) (taken : ℕ) (written : List QueuedMessage)
    (outbox : Outgoing) : Type 0 where
  pub to_client : Each (λ p. p.direction ≡ ToClient) leaving
  pub begun : List QueuedMessage
  pub all : written ≡ begun ++ outbox.messages
  pub whole : Each (λ m. IsMessage limit m.bytes) written
  pub sound : (cut limit (stream_of ToClient pieces)).has_bad_size ≡ false
  pub part : List ℕ
  pub rest : drop (cut limit (stream_of ToClient pieces)).place (stream_of ToClient pieces) ≡ part
  pub bytes : part ++ (bytes_passing leaving ++ outbox.left) ≡ all_bytes begun
  pub have : ℕ
  pub have_is : taken + have ≡ piece_tokens ToClient pieces
  pub tokens : piece_tokens ToClient pieces + tokens_passing leaving ≡ taken + length (all_tokens begun)
  pub in_time : HaveTokens (supply (length part) have leaving) 0 0 begun

pub tells_cut : (limit : ℕ) (pieces leaving : List Piece) (piece first second : Piece) (taken : ℕ)
    (written : List QueuedMessage) (outbox : Outgoing) → IsCutInTwo piece first second
    → TellsWell limit pieces (piece ∷ leaving) taken written outbox
    → TellsWell limit pieces (first ∷ second ∷ leaving) taken written outbox
tells_cut limit pieces leaving piece first second taken written outbox c h = record {
  to_client = (c.first_direction ∙ h.to_client.0, (c.second_direction ∙ h.to_client.0, h.to_client.1));
  begun = h.begun;
  all = h.all;
  whole = h.whole;
  sound = h.sound;
  part = h.part;
  rest = h.rest;
  bytes = ap (λ (l : List ℕ). h.part ++ (l ++ outbox.left))
      (sym (append_assoc first.bytes second.bytes (bytes_passing leaving))
      ∙ ap (λ (l : List ℕ). l ++ bytes_passing leaving) (sym c.bytes)) ∙ h.bytes;
  have = h.have;
  have_is = h.have_is;
  tokens = let a = h.tokens in let b = c.tokens in omega (arith, a, b);
  in_time = have_more (supply (length h.part) h.have (piece ∷ leaving))
      (supply (length h.part) h.have (first ∷ second ∷ leaving))
      (supply_cut (length h.part) h.have piece first second leaving c) 0 0 h.begun h.in_time;
}

-- messages are written
pub tells_written : (limit : ℕ) (pieces leaving : List Piece) (taken : ℕ) (written news : List QueuedMessage)
    (outbox after : Outgoing) → after.left ≡ outbox.left → after.messages ≡ outbox.messages ++ news
    → Each (λ m. IsMessage limit m.bytes) news → TellsWell limit pieces leaving taken written outbox
    → TellsWell limit pieces leaving taken (written ++ news) after
tells_written limit pieces leaving taken written news outbox after left messages whole h = record {
  to_client = h.to_client;
  begun = h.begun;
  all = ap (λ (l : List QueuedMessage). l ++ news) h.all ∙ append_assoc h.begun outbox.messages news
      ∙ ap (λ (l : List QueuedMessage). h.begun ++ l) (sym messages);
  whole = each_more (λ (m : QueuedMessage). IsMessage limit m.bytes) written news h.whole whole;
  sound = h.sound;
  part = h.part;
  rest = h.rest;
  bytes = ap (λ (l : List ℕ). h.part ++ (bytes_passing leaving ++ l)) left ∙ h.bytes;
  have = h.have;
  have_is = h.have_is;
  tokens = h.tokens;
  in_time = h.in_time;
}

-- the first n bytes that wait are taken
pub tells_taken : (limit : ℕ) (pieces leaving : List Piece) (piece : Piece) (taken : ℕ) (written : List QueuedMessage)
    (outbox : Outgoing) (n : ℕ) → n ≤ length (waiting_bytes outbox)
    → piece.direction ≡ ToClient → piece.bytes ≡ take n (waiting_bytes outbox)
    → piece.tokens ≡ length (all_tokens (newly_begun outbox n))
    → TellsWell limit pieces leaving taken written outbox
    → TellsWell limit pieces (leaving ++ piece ∷ []) taken written (after_taking outbox n)
tells_taken limit pieces leaving piece taken written outbox n there direction bytes_are tokens_are h =
    let g = gone outbox n there in
    let new = newly_begun outbox n in
    let after = after_taking outbox n in
    let passing = bytes_passing leaving in
    let all : written ≡ (h.begun ++ new) ++ after.messages =
    h.all ∙ ap (λ (l : List QueuedMessage). h.begun ++ l) g.messages ∙ sym (append_assoc h.begun new after.messages) in
    let whole = each_front (λ (m : QueuedMessage). IsMessage limit m.bytes) (h.begun ++ new) after.messages
    (subst (Each (λ m. IsMessage limit m.bytes)) all h.whole) in
    let new_whole = each_rest (λ (m : QueuedMessage). IsMessage limit m.bytes) h.begun new whole in
    let all_before = h.tokens in
    let have_is = h.have_is in
    let begun_length = ap length h.bytes in
    let l_part = length-append h.part (passing ++ outbox.left) in
    let l_passing = length-append passing outbox.left in
    let before = have_more (supply (length h.part) h.have leaving) (supply (length h.part) h.have (leaving ++ piece ∷ []))
    (supply_more (length h.part) h.have leaving piece) 0 0 h.begun h.in_time in
    let low = length h.part + length passing in
    let total = h.have + (tokens_passing leaving + piece.tokens) in
    let come : (i : ℕ) → low < i → total ≤ supply (length h.part) h.have (leaving ++ piece ∷ []) i =
    λ i above. (let b = begun_last (i - length h.part) leaving piece (omega (arith, above)) in omega (arith, b)) in
    let last = have_last limit (supply (length h.part) h.have (leaving ++ piece ∷ [])) low total come
    (length (all_bytes h.begun)) (length (all_tokens h.begun)) new (omega (arith, begun_length, l_part, l_passing))
    (omega (arith, all_before, have_is, tokens_are)) new_whole in
    record {
      to_client = each_more (λ (p : Piece). p.direction ≡ ToClient) leaving (piece ∷ []) h.to_client (direction, tt);
      begun = h.begun ++ new;
      all = all;
      whole = h.whole;
      sound = h.sound;
      part = h.part;
      rest = h.rest;
      bytes =
          ap (λ (l : List ℕ). h.part ++ (l ++ after.left)) (bytes_passing_more leaving piece
          ∙ ap (λ (l : List ℕ). passing ++ l) bytes_are)
          ∙ ap (λ (l : List ℕ). h.part ++ l) (append_assoc passing (take n (waiting_bytes outbox)) after.left
          ∙ ap (λ (l : List ℕ). passing ++ l) (sym g.bytes) ∙ sym (append_assoc passing outbox.left (all_bytes new)))
          ∙ sym (append_assoc h.part (passing ++ outbox.left) (all_bytes new))
          ∙ ap (λ (l : List ℕ). l ++ all_bytes new) h.bytes ∙ sym (all_bytes_more h.begun new);
      have = h.have;
      have_is = h.have_is;
      tokens =
          let a = tokens_passing_more leaving piece in
          let b = ap length (all_tokens_more h.begun new) in
          let c = length-append (all_tokens h.begun) (all_tokens new) in
          omega (arith, all_before, a, b, c, tokens_are);
      in_time = have_join (supply (length h.part) h.have (leaving ++ piece ∷ [])) 0 (length (all_bytes h.begun)) 0
          (length (all_tokens h.begun)) h.begun new (omega arith) (omega arith) before last;
    }
