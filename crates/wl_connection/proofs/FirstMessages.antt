-- The first message at an end, from the frame that it is found in.
use Rattle.std.proofs.Common.{◌≡◌, ℕ, List, drop, refl, sym, ap, subst, ◌∙◌, inl, inr}
use Rattle.std.specs.declared.option.Option.{Option}
use Rattle.std.specs.declared.option.Option.TheVariants.{Some}
use Rattle.std.specs.declared.result.Result.{Result}
use Rattle.std.specs.declared.result.Result.TheVariants.{Ok, Err}
use Rattle.wl_wire.specs.declared.header.Header.{Header}
use Rattle.wl_wire.specs.Word.{IsHeader}
use Rattle.wl_sigs.specs.Side.{Side}
use Rattle.wl_sigs.specs.Tables.{Interface}
use Rattle.wl_sigs.specs.Valid.{Valid}
use Rattle.wl_message.specs.declared.inbox.Frame.{Frame}
use Rattle.wl_message.specs.Arrived.{TellsFront}
use Rattle.wl_object_map.specs.Objects.{Objects}
use Rattle.wl_objects.specs.declared.error.Fault.{Fault}
use Rattle.wl_objects.specs.declared.parsed.ParsedArg.{ParsedArg}
use Rattle.wl_objects.specs.Messages.{Received, received}
use Rattle.wl_objects.specs.Parsed.{AreParsed}
use Rattle.wl_connection.specs.Core.{Core}
use Rattle.wl_connection.specs.Receiving.{Found, found, found_in, reader_in}
use Rattle.wl_connection.specs.FirstMessage.{HasParsed, IsFrontMeaning, IsMeaningOf, body_of, headed}
use Rattle.wl_connection.proofs.Frames.{IsFrame, found_frame, framed}

-- the message in the frame is the first
parsed_in : (side : Side) (core : Core) (args : List ParsedArg) (h : Header) (body : List ℕ) (waiting : ℕ)
    (m : Received) → IsFrame core h body waiting
    → received core.tables side (reader_in core side) h body waiting ≡ Ok m
    → Valid core.tables → AreParsed (reader_in core side) body args m.values
    → HasParsed side core args (headed h m)
parsed_in side core args h body waiting m fr e valid parsed =
    let behind : body_of core h.size ≡ body = ap (drop 8) fr.parts in
    record {
      is_found = found_frame core side h body waiting fr ∙ ap (found_in h.size h.opcode) e;
      whole = fr.whole;
      parsed = subst (λ (b : List ℕ). AreParsed (reader_in core side) b args m.values) (sym behind) parsed;
      valid = valid;
    }

-- ---- with a role

module _ {P : Type 0}
    (means : List Interface → Objects → List ℕ → List ParsedArg → Found → Result P Fault → Type 0) where
  pending_is : (side : Side) (core : Core) (args : List ParsedArg) (h : Header) (body : List ℕ) (waiting : ℕ)
      (pending : P) → IsFrame core h body waiting
      → (r : Result Received Fault) → received core.tables side (reader_in core side) h body waiting ≡ r
      → IsMeaningOf side means core.tables core.view h body args r (Ok pending)
      → IsFrontMeaning side means core args (Ok (Some pending))
  pending_is side core args h body waiting pending fr (Err fault) e s = absurd (cc s)
  pending_is side core args h body waiting pending fr (Ok m) e s =
      let behind : body_of core h.size ≡ body = ap (drop 8) fr.parts in (
        headed h m,
        parsed_in side core args h body waiting m fr e s.0 s.1,
        subst (λ (b : List ℕ). means core.tables core.view b args (headed h m) (Ok pending)) (sym behind) s.2,
      )

  fault_is : (side : Side) (core : Core) (args : List ParsedArg) (h : Header) (body : List ℕ) (waiting : ℕ)
      (fault : Fault) → IsFrame core h body waiting
      → (r : Result Received Fault) → received core.tables side (reader_in core side) h body waiting ≡ r
      → IsMeaningOf side means core.tables core.view h body args r (Err fault)
      → IsFrontMeaning side means core args (Err fault)
  fault_is side core args h body waiting fault fr (Err own) e s =
      let same : own ≡ fault = cc s in
      inl (subst (λ (x : Fault). found core side ≡ Err x) same
      (found_frame core side h body waiting fr ∙ ap (found_in h.size h.opcode) e))
  fault_is side core args h body waiting fault fr (Ok m) e s =
      let behind : body_of core h.size ≡ body = ap (drop 8) fr.parts in
      inr (
        headed h m,
        parsed_in side core args h body waiting m fr e s.0 s.1,
        subst (λ (b : List ℕ). means core.tables core.view b args (headed h m) (Err fault)) (sym behind) s.2,
      )

  -- ---- with the values that the code has

  pub pending_told : (side : Side) (core before : Core) (args : List ParsedArg) (o : Option Frame) (f : Frame)
      (pending : P) → core ≡ before → o ≡ Some f → TellsFront core.inbox (Ok o) → IsHeader f.header
      → IsMeaningOf side means core.tables core.view f.header f.body.now args
      (received core.tables side (reader_in core side) f.header f.body.now f.tokens) (Ok pending)
      → IsFrontMeaning side means before args (Ok (Some pending))
  pending_told side core before args o f pending same e t h s =
      subst (λ (c : Core). IsFrontMeaning side means c args (Ok (Some pending))) same
      (pending_is side core args f.header f.body.now f.tokens pending (framed core o f e t h) _ refl s)

  pub fault_told : (side : Side) (core before : Core) (args : List ParsedArg) (o : Option Frame) (f : Frame)
      (fault : Fault) → core ≡ before → o ≡ Some f → TellsFront core.inbox (Ok o) → IsHeader f.header
      → IsMeaningOf side means core.tables core.view f.header f.body.now args
      (received core.tables side (reader_in core side) f.header f.body.now f.tokens) (Err fault)
      → IsFrontMeaning side means before args (Err fault)
  fault_told side core before args o f fault same e t h s =
      subst (λ (c : Core). IsFrontMeaning side means c args (Err fault)) same
      (fault_is side core args f.header f.body.now f.tokens fault (framed core o f e t h) _ refl s)
