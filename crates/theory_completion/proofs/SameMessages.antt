-- The messages of a session are judged the same by all tables that complete others, up to the first that these doubt.
use Rattle.std.proofs.Common.{◌≡◌, ℕ, zero, suc, ◌<◌, ◌≤◌, ◌⊎◌, inl, inr, false}
use Rattle.std.proofs.Common.{List, [], ◌∷◌, length, slice_get, Some, None, refl, sym, ap, ◌∙◌, arith}
use Rattle.std.specs.Prelude.{Option}
use Rattle.std.specs.Option.{option_map_or}
use Rattle.std.proofs.lemmas.Bool.{cases_eq}
use Rattle.std.specs.declared.result.Result.TheVariants.{Ok, Err}
use Rattle.wl_sigs.specs.Tables.{Interface}
use Rattle.wl_check.specs.declared.frames.FramedMessage.{FramedMessage}
use Rattle.wl_check.specs.Changes.{Call}
use Rattle.wl_check.specs.Places.{KnownAtPlace, known}
use Rattle.wl_check.specs.Rules.{judged}
use Rattle.wl_check.specs.Session.{Session, Judged, messages, changes_at, changes_of}
use Rattle.wl_check.proofs.JudgedByPlaces.{reading, length_messages}
use Rattle.theory_completion.specs.Completion.{Completes, IsRaised}
use Rattle.theory_completion.specs.Doubt.{is_frame_doubtful, is_doubtful, NoneIsDoubtful, KnowsBinds, binds_newer}
use Rattle.theory_completion.specs.Doubt.{makes_unsettled}
use Rattle.theory_completion.proofs.SameKnown.{IsAlike, AreAlike, known_alike, object_is_settled}
use Rattle.theory_completion.proofs.SameJudged.{IsSettled, changes_alike, judged_alike, judged_settled, made_same}

-- what is known at a place of a session
abbrev known_at : List Interface → Session → ℕ → KnownAtPlace
known_at tables s k = known (changes_at tables (messages tables s)) (suc k)

-- ---- at one place

none_beyond : {X : Type 0} (xs : List X) (k : ℕ) → slice_get xs k ≡ None → length xs ≤ k
none_beyond [] k none = omega arith
none_beyond (x ∷ xs) zero none = absurd (cc (none))
none_beyond (x ∷ xs) (suc k) none = let n = none_beyond xs k none in omega (arith, n)

beyond_none : {X : Type 0} (xs : List X) (k : ℕ) → length xs ≤ k → slice_get xs k ≡ None
beyond_none [] k beyond = refl
beyond_none (x ∷ xs) zero beyond = absurd (omega (arith, beyond))
beyond_none (x ∷ xs) (suc k) beyond = beyond_none xs k (omega (arith, beyond))

pub no_message : (tables : List Interface) (s : Session) (k : ℕ) → slice_get s.frames k ≡ None
    → slice_get (messages tables s) k ≡ None
no_message tables s k none =
    let beyond = none_beyond s.frames k none in
    beyond_none (messages tables s) k (let l = length_messages tables s in omega (arith, beyond, l))

frame_is_sure : (tables one : List Interface) (s : Session) (k : ℕ) (o : Option FramedMessage) (frame : FramedMessage)
    → o ≡ Some frame
    → option_map_or (λ (f : FramedMessage). is_frame_doubtful s.limit tables one (known_at one s k)
    (s.streams f.direction) f) o false ≡ false
    → is_frame_doubtful s.limit tables one (known_at one s k) (s.streams frame.direction) frame ≡ false
frame_is_sure tables one s k o frame is h =
    ap (λ (o : Option FramedMessage). option_map_or (λ (f : FramedMessage). is_frame_doubtful s.limit tables one
    (known_at one s k) (s.streams f.direction) f) o false) (sym is) ∙ h

the_call : {X : Type 0} (o : Option X) (x y : X) → o ≡ Some x → o ≡ Some y → x ≡ y
the_call None x y a b = absurd (cc (a))
the_call (Some z) x y a b = cc

-- a call that is not doubtful is settled
settled_frame : (tables one : List Interface) (s : Session) (k : ℕ) (call : Call) (o : Option FramedMessage)
    → slice_get s.frames k ≡ o → slice_get (messages one s) k ≡ Some (Ok call)
    → is_doubtful tables one s k ≡ false → IsSettled tables call.received
settled_frame tables one s k call None at is h =
    let none = no_message one s k at in absurd (cc (none, is))
settled_frame tables one s k call (Some frame) at is h =
    let read = reading one s k frame at in
    let same = the_call (slice_get (messages one s) k)
    (judged s.limit one (known_at one s k) (s.streams frame.direction) frame) (Ok call) read is in
    judged_settled s.limit tables one (known_at one s k) (s.streams frame.direction) frame call
    (frame_is_sure tables one s k (slice_get s.frames k) frame at h) same

-- ---- the messages before a place

-- the first messages are judged the same
abbrev AgreeBelow : List Interface → List Interface → Session → ℕ → Type 0
AgreeBelow one other s k =
    (j : ℕ) → j < k → slice_get (messages one s) j ≡ slice_get (messages other s) j

-- no message before a place is doubtful
abbrev AreSure : List Interface → List Interface → Session → ℕ → Type 0
AreSure tables one s k = (j : ℕ) → j < k → is_doubtful tables one s j ≡ false

alike_of : (tables one other : List Interface) (o : Option Judged) → Completes tables one → Completes tables other
    → ((call : Call) → o ≡ Some (Ok call) → IsSettled tables call.received)
    → IsAlike (length tables) (changes_of one o) (changes_of other o)
alike_of tables one other None c d settled = record {
  direction = refl;
  made = refl;
  deleted = refl;
  destroyed = refl;
  tokens = refl;
  advertised = λ name iface version below. refl;
}
alike_of tables one other (Some (Err fault)) c d settled = record {
  direction = refl;
  made = refl;
  deleted = refl;
  destroyed = refl;
  tokens = refl;
  advertised = λ name iface version below. refl;
}
alike_of tables one other (Some (Ok call)) c d settled = changes_alike tables one other call c d (settled call refl)

alike_at : (tables one other : List Interface) (s : Session) (k : ℕ) → Completes tables one → Completes tables other
    → AgreeBelow one other s k → AreSure tables one s k
    → AreAlike (length tables) (changes_at one (messages one s)) (changes_at other (messages other s)) (suc k)
alike_at tables one other s k c d agree sure zero below = record {
  direction = refl;
  made = refl;
  deleted = refl;
  destroyed = refl;
  tokens = refl;
  advertised = λ name iface version below. refl;
}
alike_at tables one other s k c d agree sure (suc j) below =
    let same = agree j (omega (arith, below)) in
    rw (← same) (alike_of tables one other (slice_get (messages one s) j) c d
    (λ call is. settled_frame tables one s j call (slice_get s.frames j) refl is (sure j (omega (arith, below)))))

unsettled_none : (tables one : List Interface) (s : Session) (j : ℕ) (o : Option Judged) → Completes tables one
    → slice_get (messages one s) j ≡ o → is_doubtful tables one s j ≡ false
    → makes_unsettled tables (changes_of one o).made ≡ false
unsettled_none tables one s j None c is h = refl
unsettled_none tables one s j (Some (Err fault)) c is h = refl
unsettled_none tables one s j (Some (Ok call)) c is h =
    let r = call.received in
    let settled = settled_frame tables one s j call (slice_get s.frames j) refl is h in
    ap (makes_unsettled tables) (made_same tables one r.entry.version r.signature.kinds r.values c settled.names)
    ∙ settled.made_is

known_settled : (tables one : List Interface) (s : Session) (k : ℕ) → Completes tables one → AreSure tables one s k
    → (q : ℕ) → q < suc k → makes_unsettled tables (changes_at one (messages one s) q).made ≡ false
known_settled tables one s k c sure zero below = refl
known_settled tables one s k c sure (suc j) below =
    unsettled_none tables one s j (slice_get (messages one s) j) c refl (sure j (omega (arith, below)))

-- ---- the next message

agree_here : (tables one other : List Interface) (s : Session) (k : ℕ) (o : Option FramedMessage)
    → slice_get s.frames k ≡ o → Completes tables one → length one ≡ length tables → Completes tables other
    → AgreeBelow one other s k → AreSure tables one s k → is_doubtful tables one s k ≡ false
    → binds_newer tables other (slice_get (messages one s) k) ≡ false
    → slice_get (messages one s) k ≡ slice_get (messages other s) k
agree_here tables one other s k None at c len d agree sure h knows =
    no_message one s k at ∙ sym (no_message other s k at)
agree_here tables one other s k (Some frame) at c len d agree sure h knows =
    let here = known_at one s k in
    let there = known_at other s k in
    let read = reading one s k frame at in
    let alike = known_alike (length tables) (changes_at one (messages one s)) (changes_at other (messages other s))
    (suc k) (alike_at tables one other s k c d agree sure) in
    let settled = known_settled tables one s k c sure in
    read ∙ ap (λ (j : Judged). Some j) (judged_alike s.limit tables one other here there
    (s.streams frame.direction) frame c d len alike
    (λ id of. object_is_settled tables (changes_at one (messages one s)) (suc k) id settled of)
    (frame_is_sure tables one s k (slice_get s.frames k) frame at h)
    (ap (binds_newer tables other) (sym read) ∙ knows))
    ∙ sym (reading other s k frame at)

pub below_next : (j k : ℕ) → j < suc k → (j < k) ⊎ (j ≡ k)
below_next j k below = elim (cases_eq j k) [
  | inl same ↦ inr same
  | inr apart ↦ inl (omega (arith, below, apart))
]

agree_below : (tables one other : List Interface) (s : Session) → IsRaised tables one → Completes tables other → (k : ℕ)
    → AreSure tables one s k → ((j : ℕ) → j < k → binds_newer tables other (slice_get (messages one s) j) ≡ false)
    → AgreeBelow one other s k
agree_below tables one other s raised d zero sure knows j below = absurd (omega (arith, below))
agree_below tables one other s raised d (suc k) sure knows j below =
    let before = agree_below tables one other s raised d k (λ i h. sure i (omega (arith, h)))
    (λ i h. knows i (omega (arith, h))) in
    elim (below_next j k below) [
      | inl less ↦ before j less
      | inr same ↦ rw same (agree_here tables one other s k (slice_get s.frames k) refl raised.completes raised.as_many d
          before (λ i h. sure i (omega (arith, h))) (sure k (omega arith)) (knows k (omega arith)))
    ]

-- up to the first doubt, each message is judged the same
pub messages_agree : (tables raised other : List Interface) (s : Session) (k : ℕ)
    → IsRaised tables raised → Completes tables other → NoneIsDoubtful tables raised s k
    → KnowsBinds tables raised other s k → (j : ℕ) → j ≤ k
    → slice_get (messages raised s) j ≡ slice_get (messages other s) j
messages_agree tables raised other s k is d sure knows j below =
    agree_below tables raised other s is d (suc k) (λ i h. sure i (omega (arith, h))) (λ i h. knows i (omega (arith, h)))
    j (omega (arith, below))
