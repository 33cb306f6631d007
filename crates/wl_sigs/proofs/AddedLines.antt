-- The first line that adds a message to an interface of the tables and breaks a rule.
use Rattle.std.proofs.Common.{◌≡◌, ℕ, zero, suc, ◌+◌, ◌⊎◌, inl, inr, true, false, List, [], ◌∷◌}
use Rattle.std.proofs.Common.{length, map, refl, subst, Some, Bool, slice_get, arith}
use Rattle.std.proofs.lemmas.List.{length-map}
use Rattle.wl_sigs.specs.Side.{Side}
use Rattle.wl_sigs.specs.Side.TheVariants.{Request, Event}
use Rattle.wl_sigs.specs.Tables.{Interface, messages_of, destroys_target}
use Rattle.wl_text.specs.Text.{WrittenMessage, WrittenInterface}
use Rattle.wl_sigs.specs.Joined.{all_names, first_place, destroys_of}
use Rattle.wl_sigs.specs.Broken.{message_rule, ended_of}
use Rattle.wl_sigs.specs.FirstBroken.{written_of}
use Rattle.wl_sigs.specs.Extended.{Gathered, grown}
use Rattle.wl_sigs.specs.Extending.{clash_rule, named_message, behind_own_messages, added_rule}
use Rattle.wl_sigs.specs.Extending.{added_side_broken, added_broken}
use Rattle.wl_sigs.specs.FirstLineBroken.{Clashes}
use Rattle.wl_sigs.proofs.JoinedLookup.{placing_message}
use Rattle.wl_sigs.proofs.ValidKeeps.{behind}
use Rattle.wl_sigs.proofs.TestedRules.{message_says, MessageBroken}
use Rattle.wl_sigs.proofs.FirstLine.{IsLeast, like, Either, of_either, message_tests}
use Rattle.wl_sigs.proofs.FirstLine.{message_ascends}
use Rattle.wl_sigs.proofs.Grown.{written_behind}
use Rattle.wl_sigs.proofs.LeastRule.{IsLeastRule, least_tested, least_lesser, InMessagesBy}
use Rattle.wl_sigs.proofs.LeastRule.{messages_by}
use Rattle.wl_sigs.proofs.Clashes.{clash_least}

-- an added message breaks a rule; its interface is in the form of a text
abbrev pub AddedBreaks : List Interface → Gathered → ℕ → Interface → WrittenInterface → Side → ℕ → WrittenMessage → ℕ
    → Type 0
AddedBreaks tables g here old more side o m rule =
    MessageBroken (grown tables g) g.declared (behind_own_messages old more) side o m rule
    ⊎ Clashes tables here old side (placing_message (grown tables g) g.declared m) rule

target_of : (b : Bool) → destroys_target (destroys_of b) ≡ b
target_of true = refl
target_of false = refl

behind_at : (old : Interface) (more : WrittenInterface) (side : Side) (k : ℕ) (m : WrittenMessage)
    → slice_get (written_of side more) k ≡ Some m
    → slice_get (written_of side (behind_own_messages old more)) (length (messages_of side old) + k) ≡ Some m
behind_at old more side k m at =
    rw (written_behind old more side) (behind (map named_message (messages_of side old)) (written_of side more) k _ m
    (let len = length-map (messages_of side old) named_message in omega (arith, len)) at)

added_message : (tables : List Interface) (g : Gathered) (here : ℕ) (old : Interface) (more : WrittenInterface)
    (side : Side) (k : ℕ) (m : WrittenMessage) → slice_get (written_of side more) k ≡ Some m
    → IsLeastRule (AddedBreaks tables g here old more side (length (messages_of side old) + k) m)
    (added_rule tables (first_place (all_names (grown tables g) g.declared)) (ended_of (grown tables g) g.declared)
    here old more side (length (messages_of side old) + k) m)
added_message tables g here old more side k m at =
    let o = length (messages_of side old) + k in
    let all = behind_own_messages old more in
    let place = first_place (all_names (grown tables g) g.declared) in
    let ended = ended_of (grown tables g) g.declared in
    let first = first_place (map (λ n. n.name) (written_of side all)) in
    let says = message_says (grown tables g) g.declared all side o m (behind_at old more side k m at) in
    least_lesser (MessageBroken (grown tables g) g.declared all side o m)
    (Clashes tables here old side (placing_message (grown tables g) g.declared m))
    (message_rule place ended all side first o m) (clash_rule tables here old side m)
    (least_tested (MessageBroken (grown tables g) g.declared all side o m)
    (message_tests place ended all side first o m) (message_ascends place ended all side first o m) says)
    (clash_least tables here old side m (placing_message (grown tables g) g.declared m) (target_of m.destroys))

abbrev InSide : List Interface → Gathered → ℕ → Interface → WrittenInterface → Side → ℕ → ℕ → Type 0
InSide tables g here old more side =
    InMessagesBy (AddedBreaks tables g here old more side) (length (messages_of side old)) (written_of side more)

side_least : (tables : List Interface) (g : Gathered) (here : ℕ) (old : Interface) (more : WrittenInterface)
    (side : Side)
    → IsLeast (InSide tables g here old more side)
    (added_side_broken tables (first_place (all_names (grown tables g) g.declared))
    (ended_of (grown tables g) g.declared) here old more side)
side_least tables g here old more side =
    messages_by (AddedBreaks tables g here old more side)
    (added_rule tables (first_place (all_names (grown tables g) g.declared)) (ended_of (grown tables g) g.declared)
    here old more side) (length (messages_of side old)) (written_of side more)
    (λ k m at. added_message tables g here old more side k m at)

-- the messages added to interfaces, of which the first has the place `here`
pub record InAdded (tables : List Interface) (g : Gathered) (here : ℕ) (rest : List Interface)
    (added : List WrittenInterface) (line rule : ℕ) : Type 0 where
  pub index : ℕ
  pub old : Interface
  pub more : WrittenInterface
  pub side : Side
  pub at : slice_get rest index ≡ Some old
  pub said : slice_get added index ≡ Some more
  pub breaks : InSide tables g (here + index) old more side line rule

pub added_least : (tables : List Interface) (g : Gathered) (here : ℕ) (rest : List Interface)
    (added : List WrittenInterface)
    → IsLeast (InAdded tables g here rest added)
    (added_broken tables (first_place (all_names (grown tables g) g.declared))
    (ended_of (grown tables g) g.declared) here rest added)
added_least tables g here [] added = record {
  found = λ witness e. cc e;
  below = λ witness e line rule some. cc e;
  none = λ e line rule some. let no = some.at in cc no;
}
added_least tables g here (i ∷ rest) [] = record {
  found = λ witness e. cc e;
  below = λ witness e line rule some. cc e;
  none = λ e line rule some. let no = some.said in cc no;
}
added_least tables g here (i ∷ rest) (w ∷ added) =
    like (Either (Either (InSide tables g here i w Request) (InSide tables g here i w Event))
    (InAdded tables g (here + 1) rest added)) (InAdded tables g here (i ∷ rest) (w ∷ added)) to
    (λ line rule some. from line rule some.index some.old some.more some.side some.at some.said some.breaks) _
    (of_either _ _ _ _
    (of_either _ _ _ _ (side_least tables g here i w Request) (side_least tables g here i w Event))
    (added_least tables g (here + 1) rest added))
  where
    here_of : (side : Side) (line rule : ℕ) → InSide tables g here i w side line rule
        → InAdded tables g here (i ∷ rest) (w ∷ added) line rule
    here_of side line rule witness = record {
      index = 0;
      old = i;
      more = w;
      side = side;
      at = refl;
      said = refl;
      breaks = let on : here ≡ here + 0 = omega arith
          in subst (λ (k : ℕ). InSide tables g k i w side line rule) on witness;
    }

    to : (line rule : ℕ)
        → Either (Either (InSide tables g here i w Request) (InSide tables g here i w Event))
        (InAdded tables g (here + 1) rest added) line rule
        → InAdded tables g here (i ∷ rest) (w ∷ added) line rule
    to line rule (inl (inl request)) = here_of Request line rule request
    to line rule (inl (inr event)) = here_of Event line rule event
    to line rule (inr further) = record {
      index = suc further.index;
      old = further.old;
      more = further.more;
      side = further.side;
      at = further.at;
      said = further.said;
      breaks = let on : here + 1 + further.index ≡ here + suc further.index = omega arith
          in subst (λ (k : ℕ). InSide tables g k further.old further.more further.side line rule) on further.breaks;
    }

    of_side : (side : Side) (line rule : ℕ) → InSide tables g here i w side line rule
        → Either (InSide tables g here i w Request) (InSide tables g here i w Event) line rule
    of_side Request line rule witness = inl witness
    of_side Event line rule witness = inr witness

    from : (line rule index : ℕ) (old : Interface) (more : WrittenInterface) (side : Side)
        → slice_get (i ∷ rest) index ≡ Some old → slice_get (w ∷ added) index ≡ Some more
        → InSide tables g (here + index) old more side line rule
        → Either (Either (InSide tables g here i w Request) (InSide tables g here i w Event))
        (InAdded tables g (here + 1) rest added) line rule
    from line rule zero old more side at said breaks =
        let on : here + 0 ≡ here = omega arith in
        let same : old ≡ i = (let e : Some i ≡ Some old = at in cc) in
        let same' : more ≡ w = (let e : Some w ≡ Some more = said in cc) in
        inl (of_side side line rule (subst (λ (v : WrittenInterface). InSide tables g here i v side line rule) same'
        (subst (λ (j : Interface). InSide tables g here j more side line rule) same
        (subst (λ (k : ℕ). InSide tables g k old more side line rule) on breaks))))
    from line rule (suc index) old more side at said breaks =
        let on : here + suc index ≡ here + 1 + index = omega arith in
        inr (record {
          index = index;
          old = old;
          more = more;
          side = side;
          at = at;
          said = said;
          breaks = subst (λ (k : ℕ). InSide tables g k old more side line rule) on breaks;
        })
