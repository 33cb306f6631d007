-- Each message is judged with what is known from the places before it.
use Rattle.std.proofs.Common.{◌≡◌, ℕ, zero, suc, ◌+◌, ◌<◌, Some, None, IfSome, List, [], ◌∷◌, ◌++◌}
use Rattle.std.proofs.Common.{slice_get, length, refl, sym, ap, ◌∙◌, arith, append-nil}
use Rattle.std.proofs.Common.{append_assoc, length-append}
use Rattle.std.specs.Prelude.{Option, option_map}
use Rattle.std.proofs.Math.Path.{fun_ext}
use Rattle.wl_sigs.specs.Tables.{Interface}
use Rattle.wl_recording.specs.declared.piece.Direction.{Direction}
use Rattle.wl_check.specs.declared.changes.MessageChanges.{MessageChanges}
use Rattle.wl_check.specs.declared.frames.FramedMessage.{FramedMessage}
use Rattle.wl_check.specs.Places.{holder, is_ending, live_or_zombie, entry_made_at, object_named, used}
use Rattle.wl_check.specs.Places.{server_used, advertised_version, taken, KnownAtPlace, known}
use Rattle.wl_check.specs.Rules.{judged}
use Rattle.wl_check.specs.Session.{Judged, changes_of, changes_at, judged_after, messages, Session}
use Rattle.wl_check.proofs.KnownBehindMessage.{holder_before}

-- ---- the places before a place determine all that is known there

abbrev Agree : (ℕ → MessageChanges) → (ℕ → MessageChanges) → ℕ → Type 0
Agree s t p = (q : ℕ) → q < p → s q ≡ t q

less : (s t : ℕ → MessageChanges) (p : ℕ) → Agree s t (suc p) → Agree s t p
less s t p a q h = a q (omega arith)

holder_same : (s t : ℕ → MessageChanges) (p i : ℕ) → Agree s t p → holder s p i ≡ holder t p i
unfolding holder
holder_same s t zero i a = refl
holder_same s t (suc p) i a = rw (a p (omega arith), holder_same s t p i (less s t p a)) refl

is_ending_same : (s t : ℕ → MessageChanges) (m p i : ℕ) → Agree s t p → is_ending s m p i ≡ is_ending t m p i
unfolding is_ending
is_ending_same s t m zero i a = refl
is_ending_same s t m (suc p) i a = rw (a p (omega arith), is_ending_same s t m p i (less s t p a)) refl

object_same : (s t : ℕ → MessageChanges) (p i : ℕ) (o : Option ℕ) → Agree s t p → IfSome o (λ m. m < p)
    → option_map (λ m. entry_made_at s m (live_or_zombie (is_ending s m p i))) o
    ≡ option_map (λ m. entry_made_at t m (live_or_zombie (is_ending t m p i))) o
object_same s t p i None a h = refl
object_same s t p i (Some m) a h = rw (a m h, is_ending_same s t m p i a) refl

named_same : (s t : ℕ → MessageChanges) (p i : ℕ) → Agree s t p → object_named s p i ≡ object_named t p i
named_same s t p i a = rw (holder_same s t p i a) (object_same s t p i (holder t p i) a (holder_before t p i))

used_same : (s t : ℕ → MessageChanges) (p : ℕ) → Agree s t p → used s p ≡ used t p
unfolding used
used_same s t zero a = refl
used_same s t (suc p) a = rw (a p (omega arith), used_same s t p (less s t p a)) refl

server_used_same : (s t : ℕ → MessageChanges) (p : ℕ) → Agree s t p → server_used s p ≡ server_used t p
unfolding server_used
server_used_same s t zero a = refl
server_used_same s t (suc p) a = rw (a p (omega arith), server_used_same s t p (less s t p a)) refl

advertised_same : (s t : ℕ → MessageChanges) (p n i : ℕ) → Agree s t p
    → advertised_version s p n i ≡ advertised_version t p n i
unfolding advertised_version
advertised_same s t zero n i a = refl
advertised_same s t (suc p) n i a = rw (a p (omega arith), advertised_same s t p n i (less s t p a)) refl

taken_same : (s t : ℕ → MessageChanges) (p : ℕ) (d : Direction) → Agree s t p → taken s p d ≡ taken t p d
unfolding taken
taken_same s t zero d a = refl
taken_same s t (suc p) d a = rw (a p (omega arith), taken_same s t p d (less s t p a)) refl

pub known_same : (s t : ℕ → MessageChanges) (p : ℕ) → Agree s t p → known s p ≡ known t p
known_same s t p a =
    let o = fun_ext (λ i. named_same s t p i a) in
    let u = used_same s t p a in
    let v = server_used_same s t p a in
    let g = fun_ext (λ n. fun_ext (λ i. advertised_same s t p n i a)) in
    let k = fun_ext (λ d. taken_same s t p d a) in
    λ i. record { object = o i; used = u i; server_used = v i; advertised_version = g i; taken = k i }

-- ---- the messages of the first frames are the first of all

pub get_front : {A : Type 0} (xs ys : List A) (i : ℕ) → i < length xs → slice_get (xs ++ ys) i ≡ slice_get xs i
get_front [] ys i below = absurd (omega arith)
get_front (x ∷ xs) ys zero below = refl
get_front (x ∷ xs) ys (suc i) below = get_front xs ys i (omega arith)

get_end : {A : Type 0} (xs ys : List A) (y : A) → slice_get (xs ++ y ∷ ys) (length xs) ≡ Some y
get_end [] ys y = refl
get_end (x ∷ xs) ys y = get_end xs ys y

pub changes_at_same : (tables : List Interface) (e ys : List Judged) (q : ℕ) → q < suc (length e)
    → changes_at tables (e ++ ys) q ≡ changes_at tables e q
changes_at_same tables e ys zero below = refl
changes_at_same tables e ys (suc j) below = ap (changes_of tables) (get_front e ys j (omega arith))

pub front_known : (tables : List Interface) (e ys : List Judged)
    → known (changes_at tables e) (suc (length e)) ≡ known (changes_at tables (e ++ ys)) (suc (length e))
front_known tables e ys = known_same (changes_at tables e) (changes_at tables (e ++ ys)) (suc (length e))
    (λ q h. sym (changes_at_same tables e ys q h))

-- the judgement of the next frame
abbrev next_of : (limit : ℕ) → List Interface → (Direction → List ℕ) → List Judged → FramedMessage → Judged
next_of limit tables streams e f = judged limit tables (known (changes_at tables e) (suc (length e)))
    (streams f.direction) f

pub after_front : (limit : ℕ) (tables : List Interface) (streams : Direction → List ℕ) (e : List Judged)
    (fs : List FramedMessage) → (ys : List Judged) × (judged_after limit tables streams e fs ≡ e ++ ys)
unfolding judged_after
after_front limit tables streams e [] = ([], sym (append-nil e))
after_front limit tables streams e (f ∷ fs) =
    let m = next_of limit tables streams e f in
    let rest = after_front limit tables streams (e ++ m ∷ []) fs in
    (m ∷ rest.0, rest.1 ∙ append_assoc e (m ∷ []) rest.0)

length_after : (limit : ℕ) (tables : List Interface) (streams : Direction → List ℕ) (e : List Judged)
    (fs : List FramedMessage) → length (judged_after limit tables streams e fs) ≡ length e + length fs
unfolding judged_after
length_after limit tables streams e [] = omega arith
length_after limit tables streams e (f ∷ fs) =
    let m = next_of limit tables streams e f in
    omega (arith, length_after limit tables streams (e ++ m ∷ []) fs, length-append e (m ∷ []))

reading_after : (limit : ℕ) (tables : List Interface) (streams : Direction → List ℕ) (e : List Judged)
    (fs : List FramedMessage) (k n : ℕ) (f : FramedMessage) → slice_get fs k ≡ Some f → n ≡ length e + k
    → slice_get (judged_after limit tables streams e fs) n
    ≡ Some (judged limit tables (known (changes_at tables (judged_after limit tables streams e fs)) (suc n))
    (streams f.direction) f)
unfolding judged_after
reading_after limit tables streams e [] k n f is at = absurd (cc)
reading_after limit tables streams e (x ∷ fs) zero n f is at =
    let same : x ≡ f = cc in
    let m : Judged = next_of limit tables streams e x in
    let rest = after_front limit tables streams (e ++ m ∷ []) fs in
    let whole : judged_after limit tables streams (e ++ m ∷ []) fs ≡ e ++ m ∷ rest.0 =
    rest.1 ∙ append_assoc e (m ∷ []) rest.0 in
    let here : n ≡ length e = omega arith in
    rw (whole, here, ← same) (get_end e rest.0 m ∙ ap
    (λ (k : KnownAtPlace). Some (judged limit tables k (streams x.direction) x)) (front_known tables e (m ∷ rest.0)))
reading_after limit tables streams e (x ∷ fs) (suc k) n f is at =
    let m = next_of limit tables streams e x in
    reading_after limit tables streams (e ++ m ∷ []) fs k n f is (omega (arith, length-append e (m ∷ [])))

-- a message is judged with what is known at its place
pub reading : (tables : List Interface) (session : Session) (k : ℕ) (f : FramedMessage)
    → slice_get session.frames k ≡ Some f
    → slice_get (messages tables session) k ≡ Some
    (judged session.limit tables (known (changes_at tables (messages tables session)) (suc k))
    (session.streams f.direction) f)
reading tables session k f is = reading_after session.limit tables session.streams [] session.frames k k f is
    (omega arith)

pub length_messages : (tables : List Interface) (session : Session)
    → length (messages tables session) ≡ length session.frames
length_messages tables session = omega (arith, length_after session.limit tables session.streams [] session.frames)
