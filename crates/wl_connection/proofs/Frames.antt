-- What is at the front of an end that found a frame.
use Rattle.std.proofs.Common.{◌≡◌, ℕ, ◌<◌, ◌≤◌, List, ◌++◌, length, take, drop, get_or, refl, sym, ap, ◌∙◌}
use Rattle.std.proofs.Common.{subst, arith}
use Rattle.std.proofs.lemmas.List.{take-append-drop, append_assoc}
use Rattle.std.proofs.lemmas.List.Sums.{count_by-le-length}
use Rattle.std.specs.declared.option.Option.{Option}
use Rattle.std.specs.declared.option.Option.TheVariants.{Some}
use Rattle.std.specs.declared.result.Result.{Result}
use Rattle.std.specs.declared.result.Result.TheVariants.{Ok, Err}
use Rattle.wl_wire.specs.declared.header.Header.{Header}
use Rattle.wl_wire.specs.declared.kind.Kind.{Kind}
use Rattle.wl_wire.specs.Word.{IsHeader, header_at, header_bytes}
use Rattle.wl_wire.proofs.Canonicals.{header_at-bytes}
use Rattle.wl_sigs.specs.Side.{Side}
use Rattle.wl_message.specs.declared.inbox.Frame.{Frame}
use Rattle.wl_message.specs.Arrived.{TellsFront, in_front}
use Rattle.wl_message.specs.Cut.{Front, More, Bad, Whole, message_size}
use Rattle.wl_sigs.specs.Tables.{descriptors, is_descriptor_kind}
use Rattle.wl_objects.specs.declared.error.Fault.{Fault}
use Rattle.wl_objects.specs.Messages.{Received, received}
use Rattle.wl_connection.specs.Core.{Core}
use Rattle.wl_connection.specs.Receiving.{Found, reader_in, found, found_at, found_in, header_of}
use Rattle.wl_connection.proofs.ReceivedMessage.{first-tokens}

-- the frame found
pub record IsFrame (core : Core) (h : Header) (body : List ℕ) (waiting : ℕ) : Type 0 where
  pub header : IsHeader h
  pub whole : in_front core.inbox ≡ Whole h.size
  pub parts : take h.size core.inbox.bytes ≡ header_bytes h ++ body
  pub tokens : waiting ≡ length core.inbox.tokens

pub found_frame : (core : Core) (side : Side) (h : Header) (body : List ℕ) (waiting : ℕ) → IsFrame core h body waiting
    → found core side ≡ found_in h.size h.opcode (received core.tables side (reader_in core side) h body waiting)
found_frame core side h body waiting f =
    let bytes = core.inbox.bytes in
    let rest = drop h.size bytes in
    let whole : bytes ≡ header_bytes h ++ (body ++ rest) =
    sym (take-append-drop h.size bytes) ∙ ap (λ (x : List ℕ). x ++ rest) f.parts
    ∙ append_assoc (header_bytes h) body rest in
    let head : header_of bytes ≡ h = ap header_at whole ∙ header_at-bytes h (body ++ rest) f.header in
    ap (found_at core side) f.whole
    ∙ ap (λ (k : Header). found_in h.size k.opcode
    (received core.tables side (reader_in core side) k (drop 8 (take h.size bytes)) (length core.inbox.tokens))) head
    ∙ ap (λ (x : List ℕ). found_in h.size h.opcode
    (received core.tables side (reader_in core side) h x (length core.inbox.tokens))) (ap (drop 8) f.parts)
    ∙ ap (λ (n : ℕ). found_in h.size h.opcode (received core.tables side (reader_in core side) h body n)) (sym f.tokens)

pub framed : (core : Core) (o : Option Frame) (f : Frame) → o ≡ Some f → TellsFront core.inbox (Ok o)
    → IsHeader f.header
    → IsFrame core f.header f.body.now f.tokens
framed core o f e t h = let k = rw e at t in record { header = h; whole = k.0; parts = k.1; tokens = k.2 }

-- a message takes at most as many tokens as it has arguments
pub descriptors-le : (ks : List Kind) → descriptors ks ≤ length ks
descriptors-le ks = count_by-le-length is_descriptor_kind ks

-- the body of the message at the front, at an equal end
pub same-body : (core inner : Core) (size : ℕ) → inner ≡ core → in_front core.inbox ≡ Whole size
    → drop 8 (take (message_size (in_front inner.inbox)) inner.inbox.bytes) ≡ drop 8 (take size core.inbox.bytes)
same-body core inner size same whole =
    ap (λ (k : Core). drop 8 (take (message_size (in_front k.inbox)) k.inbox.bytes)) same
    ∙ ap (λ (f : Front). drop 8 (take (message_size f) core.inbox.bytes)) whole

-- the tokens of that message are the first waiting ones
pub same-tokens : (core inner : Core) (n : ℕ) (tokens : List ℕ) → inner ≡ core → n ≤ 20 → n ≤ length core.inbox.tokens
    → length tokens ≡ 20
    → ((place : ℕ) → place < n → place < 20 → get_or tokens place 0 ≡ get_or inner.inbox.tokens place 0)
    → take n tokens ≡ take n core.inbox.tokens
same-tokens core inner n tokens same few there all first =
    first-tokens n tokens core.inbox.tokens (omega (arith, few, all)) there
    (λ k less. first k less (omega (arith, less, few)) ∙ ap (λ (b : Core). get_or b.inbox.tokens k 0) same)

-- what is at the front if a message is found, and how it was read
abbrev pub IsAtFront : Core → Side → Front → Found → Type 0
IsAtFront core side fr f = (fr ≡ Whole f.size) × (f.opcode ≡ (header_of core.inbox.bytes).opcode)
    × (received core.tables side (reader_in core side) (header_of core.inbox.bytes)
    (drop 8 (take f.size core.inbox.bytes)) (length core.inbox.tokens) ≡ Ok f.message)

at_front : (core : Core) (side : Side) (f : Found) (fr : Front) → found_at core side fr ≡ Ok (Some f)
    → IsAtFront core side fr f
at_front core side f More h = absurd (cc h)
at_front core side f (Bad n) h = absurd (cc h)
at_front core side f (Whole n) h = by_result (received core.tables side (reader_in core side)
    (header_of core.inbox.bytes) (drop 8 (take n core.inbox.bytes)) (length core.inbox.tokens)) refl h
  where
    by_result : (r : Result Received Fault) → received core.tables side (reader_in core side)
        (header_of core.inbox.bytes) (drop 8 (take n core.inbox.bytes)) (length core.inbox.tokens) ≡ r
        → found_in n (header_of core.inbox.bytes).opcode r ≡ Ok (Some f) → IsAtFront core side (Whole n) f
    by_result (Err fault) e k = absurd (cc k)
    by_result (Ok m) e k =
        let same : record { size = n; opcode = (header_of core.inbox.bytes).opcode; message = m } ≡ f = cc k in
        subst (IsAtFront core side (Whole n)) same (refl, refl, e)

pub read_at_front : (core : Core) (side : Side) (f : Found) → found core side ≡ Ok (Some f)
    → IsAtFront core side (in_front core.inbox) f
read_at_front core side f e = at_front core side f (in_front core.inbox) e
