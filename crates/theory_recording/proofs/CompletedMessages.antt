-- The messages that more bytes complete, one after another.
use Rattle.std.proofs.Common.{◌≡◌, ℕ, ◌+◌, ◌<◌, ◌≤◌, false, List, [], ◌∷◌, ◌++◌, inl, inr, length}
use Rattle.std.proofs.Common.{length-append, take, drop, map, refl, sym, ap, subst, ◌∙◌, arith}
use Rattle.std.proofs.Common.{append-nil}
use Rattle.std.specs.declared.result.Result.TheVariants.{Ok}
use Rattle.std.proofs.lemmas.Bool.{cases_lt}
use Rattle.std.proofs.lemmas.List.{append_assoc, take-append-drop, take-append-le, drop-append-le}
use Rattle.std.proofs.lemmas.List.{take_all, drop_all, drop-drop, length-drop}
use Rattle.wl_sigs.specs.Tables.{Interface}
use Rattle.wl_message.specs.Cut.{front, Front, More, Bad, Whole, IsMessage}
use Rattle.wl_message.specs.Outgoing as boxes
use Rattle.wl_message.specs.Outgoing.{all_bytes, all_tokens}
use Rattle.wl_message.proofs.Cuts.{front_message, whole_stays, bad_stays, front_none}
use Rattle.wl_message.proofs.Fronts.{front_stands}
use Rattle.wl_recording.specs.declared.piece.Direction.{Direction}
use Rattle.wl_check.specs.Merged.{span, Cutting, cutting, cut_by_front, same_direction, framed}
use Rattle.wl_check.specs.Session.{Judged, judged_after}
use Rattle.wl_check.proofs.MessagesOfStream.{step}
use Rattle.theory_connection.specs.World.{Each}
use Rattle.theory_connection.proofs.Channels.{front_nil}
use Rattle.theory_recording.specs.Follows.{knowledge}
use Rattle.theory_recording.proofs.CalledAsMeant.{One}

-- ---- what is at the front

-- a part of a message is no whole message
part_front : (limit : ℕ) (x left more : List ℕ) (m : List ℕ) (f : Front) → front limit x ≡ f → x ++ left ≡ m ++ more
    → IsMessage limit m → length x < length m → front limit x ≡ More
part_front limit x left more m More e is whole h = e
part_front limit x left more m (Bad n) e is whole h =
    let p : front limit (x ++ left) ≡ Bad n = bad_stays limit x left n e in
    let q : front limit (m ++ more) ≡ Whole (length m) = front_message limit m more whole in
    absurd (cc (p, q, ap (front limit) is))
part_front limit x left more m (Whole n) e is whole h =
    let p : front limit (x ++ left) ≡ Whole n = whole_stays limit x left n e in
    let q : front limit (m ++ more) ≡ Whole (length m) = front_message limit m more whole in
    let size : n ≡ length m = cc (p, q, ap (front limit) is) in
    let there = (front_stands limit x n e).there in
    absurd (omega (arith, size, there, h))

-- bytes that begin with a whole message, and what follows it
pub record Apart (x left m more : List ℕ) : Type 0 where
  pub rest : List ℕ
  pub is : x ≡ m ++ rest
  pub behind : rest ++ left ≡ more

apart : (x left m more : List ℕ) → x ++ left ≡ m ++ more → length m ≤ length x → Apart x left m more
apart x left m more e h =
    let n = length m in
    let front : take n x ≡ m = sym (take-append-le n x left h) ∙ ap (take n) e ∙ take-append-le n m more (omega arith)
    ∙ take_all n m (omega arith) in
    record {
      rest = drop n x;
      is = sym (take-append-drop n x) ∙ ap (λ (l : List ℕ). l ++ drop n x) front;
      behind = sym (drop-append-le n x left h) ∙ ap (drop n) e ∙ drop-append-le n m more (omega arith)
          ∙ ap (λ (l : List ℕ). l ++ more) (drop_all n m (omega arith));
    }

-- ---- the messages from a place of a stream on

module _ {M : Type 0} (sp : M → boxes.QueuedMessage) (limit : ℕ) (tables : List Interface) (d : Direction)
    (streams : Direction → List ℕ) (t : ℕ) (F : List Judged → List M → List M → Type 0) where
  -- the message at a place keeps all rules
  abbrev pub KeepsOne : Type 0
  KeepsOne = (e : List Judged) (seen later : List M) (m : M) (p : ℕ) (more : List ℕ) → F e seen (m ∷ later)
      → IsMessage limit (sp m).bytes → drop p (streams d) ≡ (sp m).bytes ++ more
      → (knowledge tables e).taken d + length (sp m).tokens ≤ t
      → One limit tables d (streams d) t p (sp m) e (λ e'. F e' (seen ++ m ∷ []) later)

  -- Of the messages that were not yet recorded, `fresh` are complete in the stream, followed by a
  -- part of the next.
  pub record Walked (e : List Judged) (seen later : List M) (x : List ℕ) (c : Cutting) : Type 0 where
    pub fresh : List M
    pub still : List M
    pub later_is : later ≡ fresh ++ still
    pub part : List ℕ
    pub sound : c.has_bad_size ≡ false
    pub rest : drop c.place (streams d) ≡ part
    pub bytes : all_bytes (map sp fresh) ++ part ≡ x
    pub own : (knowledge tables (judged_after limit tables streams e (map (framed d t) c.spans))).taken d
        ≡ (knowledge tables e).taken d + length (all_tokens (map sp fresh))
    pub other : (y : Direction) → same_direction d y ≡ false
        → (knowledge tables (judged_after limit tables streams e (map (framed d t) c.spans))).taken y
        ≡ (knowledge tables e).taken y
    pub next : F (judged_after limit tables streams e (map (framed d t) c.spans)) (seen ++ fresh) still

  -- only a part of the next message is there
  stops : (e : List Judged) (seen later : List M) (p : ℕ) (x : List ℕ) → F e seen later → drop p (streams d) ≡ x
      → p ≤ length (streams d) → front limit x ≡ More
      → Walked e seen later x (cutting limit (length (streams d)) (streams d) p)
  unfolding judged_after
  stops e seen later p x f at within more =
      let here : cutting limit (length (streams d)) (streams d) p ≡ record { spans = []; place = p; has_bad_size = false } =
      step limit (length (streams d)) (streams d) p within (omega arith)
      ∙ ap (λ (o : Front). cut_by_front p o (cutting limit (length (streams d)) (streams d)))
      (ap (front limit) at ∙ more) in
      subst (Walked e seen later x) (sym here) (record {
        fresh = [];
        still = later;
        later_is = refl;
        part = x;
        sound = refl;
        rest = at;
        bytes = refl;
        own = omega arith;
        other = λ y apart. refl;
        next = subst (λ (s : List M). F e s later) (sym (append-nil seen)) f;
      })

  -- the next message is whole, and others may follow it
  goes : (e : List Judged) (seen later : List M) (m : M) (p : ℕ) (x rest : List ℕ) → IsMessage limit (sp m).bytes
      → drop p (streams d) ≡ x → p ≤ length (streams d) → x ≡ (sp m).bytes ++ rest
      → (o : One limit tables d (streams d) t p (sp m) e (λ e'. F e' (seen ++ m ∷ []) later))
      → Walked (e ++ Ok o.call ∷ []) (seen ++ m ∷ []) later rest
      (cutting limit (length (streams d)) (streams d) (p + length (sp m).bytes))
      → Walked e seen (m ∷ later) x (cutting limit (length (streams d)) (streams d) p)
  unfolding judged_after
  goes e seen later m p x rest whole at within is o w =
      let size = length (sp m).bytes in
      let c = cutting limit (length (streams d)) (streams d) (p + size) in
      let found : front limit (drop p (streams d)) ≡ Whole size =
      ap (front limit) (at ∙ is) ∙ front_message limit (sp m).bytes rest whole in
      let here : cutting limit (length (streams d)) (streams d) p
      ≡ record { spans = span p size ∷ c.spans; place = c.place; has_bad_size = c.has_bad_size } =
      step limit (length (streams d)) (streams d) p within (omega arith)
      ∙ ap (λ (f : Front). cut_by_front p f (cutting limit (length (streams d)) (streams d))) found in
      let e' = e ++ Ok o.call ∷ [] in
      let after : judged_after limit tables streams e (map (framed d t) (span p size ∷ c.spans))
      ≡ judged_after limit tables streams e' (map (framed d t) c.spans) =
      ap (λ (j : Judged). judged_after limit tables streams (e ++ j ∷ []) (map (framed d t) c.spans)) o.is in
      subst (Walked e seen (m ∷ later) x) (sym here) (record {
        fresh = m ∷ w.fresh;
        still = w.still;
        later_is = ap (λ (l : List M). m ∷ l) w.later_is;
        part = w.part;
        sound = w.sound;
        rest = w.rest;
        bytes = append_assoc (sp m).bytes (all_bytes (map sp w.fresh)) w.part
            ∙ ap (λ (l : List ℕ). (sp m).bytes ++ l) w.bytes ∙ sym is;
        own = ap (λ (j : List Judged). (knowledge tables j).taken d) after ∙ w.own
            ∙ (let a = o.own in omega (arith, a, length-append (sp m).tokens (all_tokens (map sp w.fresh))));
        other = λ y other. ap (λ (j : List Judged). (knowledge tables j).taken y) after ∙ w.other y other
            ∙ o.other y other;
        next = subst (λ (s : List M). F (judged_after limit tables streams e (map (framed d t) (span p size ∷ c.spans)))
            s w.still) (append_assoc seen (m ∷ []) w.fresh)
            (subst (λ (j : List Judged). F j ((seen ++ m ∷ []) ++ w.fresh) w.still) (sym after) w.next);
      })

  -- These messages are begun. They are the first of those not yet recorded. Of their bytes, x are
  -- in the stream, and `left` are still to come.
  pub walk : KeepsOne → (later : List M) (begun others : List boxes.QueuedMessage) (e : List Judged) (seen : List M)
      (p : ℕ)
      (x left : List ℕ) → F e seen later → drop p (streams d) ≡ x → p ≤ length (streams d)
      → map sp later ≡ begun ++ others → x ++ left ≡ all_bytes begun → Each (λ m. IsMessage limit m.bytes) begun
      → (knowledge tables e).taken d + length (all_tokens begun) ≤ t
      → Walked e seen later x (cutting limit (length (streams d)) (streams d) p)
  walk one later [] others e seen p x left f at within is bytes whole enough =
      stops e seen later p x f at within (ap (front limit) (front_nil x left bytes) ∙ front_none limit)
  walk one [] (b ∷ begun) others e seen p x left f at within is bytes whole enough = absurd (cc is)
  walk one (m ∷ later) (b ∷ begun) others e seen p x left f at within is bytes whole enough =
      let first : sp m ≡ b = cc is in
      let rest : map sp later ≡ begun ++ others = cc is in
      let here : x ++ left ≡ (sp m).bytes ++ all_bytes begun =
      bytes ∙ ap (λ (y : boxes.QueuedMessage). y.bytes ++ all_bytes begun) (sym first) in
      let good : IsMessage limit (sp m).bytes = subst (λ (y : boxes.QueuedMessage). IsMessage limit y.bytes)
      (sym first) whole.0 in
      let count : length b.tokens ≡ length (sp m).tokens = ap (λ (y : boxes.QueuedMessage). length y.tokens)
      (sym first) in
      let all = length-append b.tokens (all_tokens begun) in
      elim (cases_lt (length x) (length (sp m).bytes)) [
        | inl h ↦ stops e seen (m ∷ later) p x f at within
            (part_front limit x left (all_bytes begun) (sp m).bytes (front limit x) refl here good h)
        | inr h ↦
            let a = apart x left (sp m).bytes (all_bytes begun) here h in
            let o = one e seen later m p a.rest f good (at ∙ a.is) (omega (arith, enough, count, all)) in
            let size = length (sp m).bytes in
            let long : length x ≡ length (drop p (streams d)) = ap length (sym at) in
            let next : drop (p + size) (streams d) ≡ a.rest =
            sym (drop-drop size p (streams d)) ∙ ap (drop size) (at ∙ a.is)
            ∙ drop-append-le size (sp m).bytes a.rest (omega arith)
            ∙ ap (λ (l : List ℕ). l ++ a.rest) (drop_all size (sp m).bytes (omega arith)) in
            let w = walk one later begun others (e ++ Ok o.call ∷ []) (seen ++ m ∷ [])
            (p + size) a.rest left o.next next
            (omega (arith, h, long, length-drop p (streams d), within)) rest a.behind whole.1
            (let own = o.own in omega (arith, own, enough, count, all)) in
            goes e seen later m p x a.rest good at within a.is o w
      ]
