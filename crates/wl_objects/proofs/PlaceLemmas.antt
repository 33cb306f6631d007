-- The first places at which a call's arguments are wrong, found by going through the arguments
-- once.
use Rattle.std.proofs.Common.{◌≡◌, ℕ, zero, suc, ◌+◌, ◌<◌, ◌≤◌, Bool, true, false, List, [], ◌∷◌}
use Rattle.std.proofs.Common.{length, map, Some, None, refl, sym, ap, subst, ◌∙◌, ◌↔◌, arith}
use Rattle.std.specs.Prelude.{Option, if◌then◌else◌, nat_lt}
use Rattle.std.specs.declared.result.Result.{Result}
use Rattle.std.specs.declared.result.Result.TheVariants.{Ok, Err}
use Rattle.std.proofs.lemmas.Bool.{ltb-false, le-ltb}
use Rattle.wl_wire.specs.declared.kind.Kind.{Kind}
use Rattle.wl_wire.specs.Argument.{Int, Uint, Fixed, Str, Obj, New, NewNamed, Array, Fd}
use Rattle.wl_sigs.specs.Side.{Side}
use Rattle.wl_sigs.specs.Tables.{MessageSignature, Interface, signature_at}
use Rattle.wl_object_map.specs.declared.object.Object.{Object}
use Rattle.wl_object_map.specs.declared.object.Entry.{Entry}
use Rattle.wl_object_map.specs.Objects.{Objects, look}
use Rattle.wl_objects.specs.declared.error.SendError.{SendError}
use Rattle.wl_objects.specs.declared.error.SendError.TheVariants as refusals
use Rattle.wl_objects.specs.Writing.{Given, wired, suits, can_name, wrong_place, lost_place, message_len}
use Rattle.wl_objects.specs.Messages.{is_hidden, checked, checked_as, checked_by, live_row}
use Rattle.wl_objects.specs.Messages.{unless_hidden, signature_unless_wrong, signature_unless_lost}
use Rattle.wl_objects.specs.Places.{SuitsAt, IsWrongAt, IsFirstWrong, NamesAt, IsLostAt}
use Rattle.wl_objects.specs.Places.{IsFirstLost, ReachesArguments, unsuited, missing, one_too_many}
use Rattle.wl_objects.proofs.Wholes.{live-target, live-row, shown-signature}

-- ---- one argument on

suits_on : (kind : Kind) (x : Given) (ks : List Kind) (list : List Given) (k : ℕ) → SuitsAt ks list k
    → SuitsAt (kind ∷ ks) (x ∷ list) (suc k)
suits_on kind x ks list k s = record { kind = s.kind; value = s.value; asked = s.asked; there = s.there; suit = s.suit }

suits_back : (kind : Kind) (x : Given) (ks : List Kind) (list : List Given) (k : ℕ)
    → SuitsAt (kind ∷ ks) (x ∷ list) (suc k) → SuitsAt ks list k
suits_back kind x ks list k s = record {
  kind = s.kind;
  value = s.value;
  asked = s.asked;
  there = s.there;
  suit = s.suit;
}

before_on : (kind : Kind) (x : Given) (ks : List Kind) (list : List Given) (n : ℕ) → suits kind x ≡ true
    → ((k : ℕ) → k < n → SuitsAt ks list k)
    → (k : ℕ) → k < suc n → SuitsAt (kind ∷ ks) (x ∷ list) k
before_on kind x ks list n s b zero h = record { kind = kind; value = x; asked = refl; there = refl; suit = s }
before_on kind x ks list n s b (suc k) h = suits_on kind x ks list k (b k (omega arith))

wrong_on : (kind : Kind) (x : Given) (ks : List Kind) (list : List Given) (n : ℕ) → IsWrongAt ks list n
    → IsWrongAt (kind ∷ ks) (x ∷ list) (suc n)
wrong_on kind x ks list n (unsuited a t s) = unsuited a t s
wrong_on kind x ks list n (missing a t) = missing a t
wrong_on kind x ks list n (one_too_many a t) = one_too_many a t

wrong_back : (kind : Kind) (x : Given) (ks : List Kind) (list : List Given) (n : ℕ)
    → IsWrongAt (kind ∷ ks) (x ∷ list) (suc n) → IsWrongAt ks list n
wrong_back kind x ks list n (unsuited a t s) = unsuited a t s
wrong_back kind x ks list n (missing a t) = missing a t
wrong_back kind x ks list n (one_too_many a t) = one_too_many a t

-- ---- S5

-- the place is counted from where the search began
record WrongFrom (place : ℕ) (ks : List Kind) (list : List Given) (found : ℕ) : Type 0 where
  ahead : ℕ
  at : found ≡ place + ahead
  first : IsFirstWrong ks list ahead

wrong_from : (place : ℕ) (ks : List Kind) (list : List Given) (found : ℕ) → wrong_place place ks list ≡ Some found
    → WrongFrom place ks list found
wrong_from place [] [] found e = absurd (cc)
wrong_from place [] (x ∷ list) found e = let same : place ≡ found = cc in record {
  ahead = 0;
  at = omega (arith, same);
  first = record { before = λ k h. absurd (omega arith); wrong = one_too_many refl refl };
}
wrong_from place (kind ∷ ks) [] found e = let same : place ≡ found = cc in record {
  ahead = 0;
  at = omega (arith, same);
  first = record { before = λ k h. absurd (omega arith); wrong = missing refl refl };
}
wrong_from place (kind ∷ ks) (x ∷ list) found e = by_suits (wrong_from (suc place) ks list found) (suits kind x) refl e
  where
    by_suits : (more : wrong_place (suc place) ks list ≡ Some found → WrongFrom (suc place) ks list found) (b : Bool)
        → suits kind x ≡ b → (if b then wrong_place (suc place) ks list else Some place) ≡ Some found
        → WrongFrom place (kind ∷ ks) (x ∷ list) found
    by_suits more false s e = let same : place ≡ found = cc in record {
      ahead = 0;
      at = omega (arith, same);
      first = record { before = λ k h. absurd (omega arith); wrong = unsuited refl refl s };
    }
    by_suits more true s e =
        let w = more e in
        record {
          ahead = suc w.ahead;
          at = omega (arith, w.at);
          first = record {
            before = before_on kind x ks list w.ahead s w.first.before;
            wrong = wrong_on kind x ks list w.ahead w.first.wrong;
          };
        }

pub wrong-first : (ks : List Kind) (list : List Given) (found : ℕ) → wrong_place 0 ks list ≡ Some found
    → IsFirstWrong ks list found
wrong-first ks list found e = let w = wrong_from 0 ks list found e in let same : w.ahead ≡ found = omega (arith, w.at)
    in subst (IsFirstWrong ks list) same w.first

suited : (kind : Kind) (x : Given) (ks : List Kind) (list : List Given) → SuitsAt (kind ∷ ks) (x ∷ list) 0
    → suits kind x ≡ true
suited kind x ks list s = let a : kind ≡ s.kind = cc in let t : x ≡ s.value = cc in rw (a, t) s.suit

none_there : (ks : List Kind) (list : List Given) (k : ℕ) → ks ≡ [] → SuitsAt ks list k → ⊥
none_there [] list k e s = cc
none_there (kind ∷ ks) list k e s = cc

none_given : (ks : List Kind) (list : List Given) (k : ℕ) → list ≡ [] → SuitsAt ks list k → ⊥
none_given ks [] k e s = cc
none_given ks (x ∷ list) k e s = cc

first-from : (place : ℕ) (ks : List Kind) (list : List Given) (ahead : ℕ) → IsFirstWrong ks list ahead
    → wrong_place place ks list ≡ Some (place + ahead)
first-from place [] [] ahead f = absurd (nothing f.wrong)
  where
    nothing : IsWrongAt [] [] ahead → ⊥
    nothing (unsuited a t s) = cc
    nothing (missing a t) = cc
    nothing (one_too_many a t) = cc
first-from place [] (x ∷ list) zero f = ap (λ (n : ℕ). Some n) (omega arith)
first-from place [] (x ∷ list) (suc ahead) f = absurd (none_there [] (x ∷ list) 0 refl (f.before 0 (omega arith)))
first-from place (kind ∷ ks) [] zero f = ap (λ (n : ℕ). Some n) (omega arith)
first-from place (kind ∷ ks) [] (suc ahead) f = absurd (none_given (kind ∷ ks) [] 0 refl (f.before 0 (omega arith)))
first-from place (kind ∷ ks) (x ∷ list) zero f = rw (unsuited_here f.wrong) (ap (λ (n : ℕ). Some n) (omega arith))
  where
    unsuited_here : IsWrongAt (kind ∷ ks) (x ∷ list) 0 → suits kind x ≡ false
    unsuited_here (unsuited {kind = k} {value = v} a t s) = let a' : kind ≡ k = cc in let t' : x ≡ v = cc
        in rw (a', t') s
    unsuited_here (missing a t) = absurd (cc)
    unsuited_here (one_too_many a t) = absurd (cc)
first-from place (kind ∷ ks) (x ∷ list) (suc ahead) f =
    let here : suits kind x ≡ true = suited kind x ks list (f.before 0 (omega arith)) in
    let more : wrong_place (suc place) ks list ≡ Some (suc place + ahead) =
    first-from (suc place) ks list ahead (record {
      before = λ k h. suits_back kind x ks list k
          (f.before (suc k) (omega arith));
      wrong = wrong_back kind x ks list ahead f.wrong;
    }) in
    rw (here, more) (ap (λ (n : ℕ). Some n) (omega arith))

pub first-wrong : (ks : List Kind) (list : List Given) (found : ℕ) → IsFirstWrong ks list found
    → wrong_place 0 ks list ≡ Some found
first-wrong ks list found f = first-from 0 ks list found f ∙ ap (λ (n : ℕ). Some n) (omega arith)

-- no place is found if and only if all arguments suit

pub none-wrong : (place : ℕ) (ks : List Kind) (list : List Given) → wrong_place place ks list ≡ None
    → (length list ≡ length ks) × ((k : ℕ) → k < length ks → SuitsAt ks list k)
none-wrong place [] [] e = (refl, λ k h. absurd (omega arith))
none-wrong place [] (x ∷ list) e = absurd (cc)
none-wrong place (kind ∷ ks) [] e = absurd (cc)
none-wrong place (kind ∷ ks) (x ∷ list) e = by_suits (none-wrong (suc place) ks list) (suits kind x) refl e
  where
    by_suits : (more : wrong_place (suc place) ks list ≡ None
        → (length list ≡ length ks) × ((k : ℕ) → k < length ks → SuitsAt ks list k)) (b : Bool) → suits kind x ≡ b
        → (if b then wrong_place (suc place) ks list else Some place) ≡ None
        → (length (x ∷ list) ≡ length (kind ∷ ks))
        × ((k : ℕ) → k < length (kind ∷ ks) → SuitsAt (kind ∷ ks) (x ∷ list) k)
    by_suits more false s e = absurd (cc)
    by_suits more true s e = let n = more e in (omega (arith, n.0), before_on kind x ks list (length ks) s n.1)

pub suited-all : (place : ℕ) (ks : List Kind) (list : List Given) → length list ≡ length ks
    → ((k : ℕ) → k < length ks → SuitsAt ks list k) → wrong_place place ks list ≡ None
suited-all place [] [] l s = refl
suited-all place [] (x ∷ list) l s = absurd (omega arith)
suited-all place (kind ∷ ks) [] l s = absurd (omega arith)
suited-all place (kind ∷ ks) (x ∷ list) l s =
    let here : suits kind x ≡ true = suited kind x ks list (s 0 (omega arith)) in
    let more : wrong_place (suc place) ks list ≡ None =
    suited-all (suc place) ks list (omega arith)
    (λ k h. suits_back kind x ks list k (s (suc k) (omega arith))) in
    rw (here, more) refl

-- ---- S6

names_on : (rows : ℕ → Option Entry) (kind : Kind) (x : Given) (ks : List Kind) (list : List Given) (n : ℕ)
    → can_name rows kind x ≡ true → ((k : ℕ) → k < n → NamesAt rows ks list k)
    → (k : ℕ) → k < suc n → NamesAt rows (kind ∷ ks) (x ∷ list) k
names_on rows kind x ks list n s b zero h = record { kind = kind; value = x; asked = refl; there = refl; named = s }
names_on rows kind x ks list n s b (suc k) h = let t = b k (omega arith)
    in record { kind = t.kind; value = t.value; asked = t.asked; there = t.there; named = t.named }

lost_here : (rows : ℕ → Option Entry) (kind : Kind) (x : Given) (ks : List Kind) (list : List Given)
    → can_name rows kind x ≡ false → IsLostAt rows (kind ∷ ks) (x ∷ list) 0
lost_here rows kind (Obj (Some object)) ks list s =
    record { kind = kind; object = object; asked = refl; there = refl; lost = s }
lost_here rows kind (Obj None) ks list s = absurd (cc)
lost_here rows kind (Int z) ks list s = absurd (cc)
lost_here rows kind (Uint n) ks list s = absurd (cc)
lost_here rows kind (Fixed z) ks list s = absurd (cc)
lost_here rows kind (Str text) ks list s = absurd (cc)
lost_here rows kind (New y) ks list s = absurd (cc)
lost_here rows kind (NewNamed iface version y) ks list s = absurd (cc)
lost_here rows kind (Array bytes) ks list s = absurd (cc)
lost_here rows kind (Fd token) ks list s = absurd (cc)

record LostFrom (rows : ℕ → Option Entry) (place : ℕ) (ks : List Kind) (list : List Given) (found : ℕ) : Type 0 where
  ahead : ℕ
  at : found ≡ place + ahead
  first : IsFirstLost rows ks list ahead

lost_from : (rows : ℕ → Option Entry) (place : ℕ) (ks : List Kind) (list : List Given) (found : ℕ)
    → lost_place rows place ks list ≡ Some found → LostFrom rows place ks list found
lost_from rows place [] [] found e = absurd (cc)
lost_from rows place [] (x ∷ list) found e = absurd (cc)
lost_from rows place (kind ∷ ks) [] found e = absurd (cc)
lost_from rows place (kind ∷ ks) (x ∷ list) found e =
    by_name (lost_from rows (suc place) ks list found) (can_name rows kind x) refl e
  where
    by_name : (more : lost_place rows (suc place) ks list ≡ Some found → LostFrom rows (suc place) ks list found)
        (b : Bool) → can_name rows kind x ≡ b → (if b then lost_place rows (suc place) ks list else Some place)
        ≡ Some found → LostFrom rows place (kind ∷ ks) (x ∷ list) found
    by_name more false s e = let same : place ≡ found = cc in record {
      ahead = 0;
      at = omega (arith, same);
      first = record { before = λ k h. absurd (omega arith); lost = lost_here rows kind x ks list s };
    }
    by_name more true s e =
        let w = more e in
        let l = w.first.lost in
        record {
          ahead = suc w.ahead;
          at = omega (arith, w.at);
          first = record {
            before = names_on rows kind x ks list w.ahead s w.first.before;
            lost = record { kind = l.kind; object = l.object; asked = l.asked; there = l.there; lost = l.lost };
          };
        }

pub lost-first : (rows : ℕ → Option Entry) (ks : List Kind) (list : List Given) (found : ℕ)
    → lost_place rows 0 ks list ≡ Some found → IsFirstLost rows ks list found
lost-first rows ks list found e = let w = lost_from rows 0 ks list found e in let same : w.ahead ≡ found =
    omega (arith, w.at) in subst (IsFirstLost rows ks list) same w.first

can_here : (rows : ℕ → Option Entry) (kind : Kind) (x : Given) (ks : List Kind) (list : List Given)
    → NamesAt rows (kind ∷ ks) (x ∷ list) 0 → can_name rows kind x ≡ true
can_here rows kind x ks list s = let a : kind ≡ s.kind = cc in let t : x ≡ s.value = cc in rw (a, t) s.named

cannot_here : (rows : ℕ → Option Entry) (kind : Kind) (x : Given) (ks : List Kind) (list : List Given)
    → IsLostAt rows (kind ∷ ks) (x ∷ list) 0 → can_name rows kind x ≡ false
cannot_here rows kind x ks list s = let a : kind ≡ s.kind = cc in let t : x ≡ Obj (Some s.object) = cc
    in rw (a, t) s.lost

lost_ahead : (rows : ℕ → Option Entry) (place : ℕ) (ks : List Kind) (list : List Given) (ahead : ℕ)
    → IsFirstLost rows ks list ahead → lost_place rows place ks list ≡ Some (place + ahead)
lost_ahead rows place [] list ahead f = absurd (let a = f.lost.asked in cc)
lost_ahead rows place (kind ∷ ks) [] ahead f = absurd (let t = f.lost.there in cc)
lost_ahead rows place (kind ∷ ks) (x ∷ list) zero f =
    rw (cannot_here rows kind x ks list f.lost) (ap (λ (n : ℕ). Some n) (omega arith))
lost_ahead rows place (kind ∷ ks) (x ∷ list) (suc ahead) f =
    let here : can_name rows kind x ≡ true = can_here rows kind x ks list (f.before 0 (omega arith)) in
    let l = f.lost in
    let back : (k : ℕ) → k < ahead → NamesAt rows ks list k = λ k h. let t = f.before (suc k) (omega arith)
    in record { kind = t.kind; value = t.value; asked = t.asked; there = t.there; named = t.named } in
    let more : lost_place rows (suc place) ks list ≡ Some (suc place + ahead) =
    lost_ahead rows (suc place) ks list ahead
    (record {
      before = back;
      lost = record {
        kind = l.kind;
        object = l.object;
        asked = l.asked;
        there = l.there;
        lost = l.lost;
      };
    }) in
    rw (here, more) (ap (λ (n : ℕ). Some n) (omega arith))

pub first-lost : (rows : ℕ → Option Entry) (ks : List Kind) (list : List Given) (found : ℕ)
    → IsFirstLost rows ks list found → lost_place rows 0 ks list ≡ Some found
first-lost rows ks list found f = lost_ahead rows 0 ks list found f ∙ ap (λ (n : ℕ). Some n) (omega arith)

-- ---- the result of a call's arguments

-- a result that comes after S2, S3 and S4 were tested
abbrev IsLate : Result MessageSignature SendError → Type 0
IsLate (Err refusals.Stale) = ⊥
IsLate (Err refusals.NoSuchMessage) = ⊥
IsLate (Err refusals.TooOld) = ⊥
IsLate _ = Unit {0}

-- the result of the arguments
abbrev judged_list : ℕ → Objects → List Given → MessageSignature → Result MessageSignature SendError
judged_list limit view list m =
    signature_unless_wrong limit (wrong_place 0 m.kinds list) (lost_place (look view) 0 m.kinds list)
    (message_len (map (wired 0) list)) m

late_signature : (limit : ℕ) (view : Objects) (list : List Given) (entry : Entry) (at : Option MessageSignature)
    (x : Result MessageSignature SendError) → IsLate x → checked_as limit view list entry at ≡ x
    → (m : MessageSignature) × (at ≡ Some m) × (m.since ≤ entry.version) × (judged_list limit view list m ≡ x)
late_signature limit view list entry None x late e = absurd (subst IsLate (sym e) late)
late_signature limit view list entry (Some m) x late e = by_version (nat_lt entry.version m.since) refl e
  where
    by_version : (b : Bool) → nat_lt entry.version m.since ≡ b
        → (if b then Err refusals.TooOld else judged_list limit view list m) ≡ x
        → (n : MessageSignature) × (Some m ≡ Some n) × (n.since ≤ entry.version) × (judged_list limit view list n ≡ x)
    by_version true t e = absurd (subst IsLate (sym e) late)
    by_version false t e = (m, refl, ltb-false entry.version m.since t, e)

late : (limit : ℕ) (tables : List Interface) (side : Side) (view : Objects) (target : Object) (opcode : ℕ)
    (list : List Given) (x : Result MessageSignature SendError) → IsLate x
    → checked limit tables side view target opcode list ≡ x
    → (m : MessageSignature) × ReachesArguments tables side view target opcode m × (judged_list limit view list m ≡ x)
late limit tables side view target opcode list x h e = by_row (live_row view target) refl e
  where
    by_row : (row : Option Entry) → live_row view target ≡ row → checked_by limit tables side view opcode list row ≡ x
        → (m : MessageSignature) × ReachesArguments tables side view target opcode m
        × (judged_list limit view list m ≡ x)
    by_row None l e = absurd (subst IsLate (sym e) h)
    by_row (Some entry) l e =
        let t = live-target view target entry l in
        let s = late_signature limit view list entry
        (unless_hidden (is_hidden side entry.iface opcode) (signature_at tables entry.iface.0 side opcode)) x h
        e in
        let shown = shown-signature (is_hidden side entry.iface opcode)
        (signature_at tables entry.iface.0 side opcode) s.0 s.1 in (
          s.0,
          record {
            entry = entry;
            row = t.0;
            birth = t.1;
            live = t.2;
            shown = shown.0;
            exists = shown.1;
            since = s.2;
          },
          s.3,
        )

reached : (limit : ℕ) (tables : List Interface) (side : Side) (view : Objects) (target : Object) (opcode : ℕ)
    (list : List Given) (m : MessageSignature)
    → ReachesArguments tables side view target opcode m → checked limit tables side view target opcode list
    ≡ judged_list limit view list m
reached limit tables side view target opcode list m r =
    let row = live-row view target r.entry r.row r.birth r.live in
    let since : nat_lt r.entry.version m.since ≡ false = le-ltb r.entry.version m.since r.since in
    rw (row, r.shown, r.exists, since) refl

wrong_of : (limit : ℕ) (wrong lost : Option ℕ) (len place : ℕ) (m : MessageSignature)
    → signature_unless_wrong limit wrong lost len m ≡ Err (refusals.WrongArgs place) → wrong ≡ Some place
wrong_of limit (Some p) lost len place m e = let same : p ≡ place = cc in ap (λ (n : ℕ). Some n) same
wrong_of limit None (Some p) len place m e = absurd (cc)
wrong_of limit None None len place m e = absurd (by_len (nat_lt limit len) e)
  where
    by_len : (b : Bool) → (if b then Err refusals.TooLong else Ok m) ≡ Err (refusals.WrongArgs place) → ⊥
    by_len true e = cc
    by_len false e = cc

lost_of : (limit : ℕ) (wrong lost : Option ℕ) (len place : ℕ) (m : MessageSignature)
    → signature_unless_wrong limit wrong lost len m ≡ Err (refusals.BadObject place)
    → (wrong ≡ None) × (lost ≡ Some place)
lost_of limit (Some p) lost len place m e = absurd (cc)
lost_of limit None (Some p) len place m e = let same : p ≡ place = cc in (refl, ap (λ (n : ℕ). Some n) same)
lost_of limit None None len place m e = absurd (by_len (nat_lt limit len) e)
  where
    by_len : (b : Bool) → (if b then Err refusals.TooLong else Ok m) ≡ Err (refusals.BadObject place) → ⊥
    by_len true e = cc
    by_len false e = cc

pub wrong-refused : (limit : ℕ) (tables : List Interface) (side : Side) (view : Objects) (target : Object) (opcode : ℕ)
    (list : List Given) (place : ℕ)
    → (checked limit tables side view target opcode list ≡ Err (refusals.WrongArgs place)) ↔
    ((m : MessageSignature) × ReachesArguments tables side view target opcode m × IsFirstWrong m.kinds list place)
wrong-refused limit tables side view target opcode list place = (
  λ e.
      let l = late limit tables side view target opcode list (Err (refusals.WrongArgs place)) tt e in (
        l.0,
        l.1,
        wrong-first l.0.kinds list place
            (wrong_of limit (wrong_place 0 l.0.kinds list) (lost_place (look view) 0 l.0.kinds list)
            (message_len (map (wired 0) list)) place l.0 l.2),
      ),
  λ f. reached limit tables side view target opcode list f.0 f.1
      ∙ ap (λ (w : Option ℕ). signature_unless_wrong limit w (lost_place (look view) 0 f.0.kinds list)
      (message_len (map (wired 0) list)) f.0) (first-wrong f.0.kinds list place f.2),
)

pub lost-refused : (limit : ℕ) (tables : List Interface) (side : Side) (view : Objects) (target : Object) (opcode : ℕ)
    (list : List Given) (place : ℕ)
    → (checked limit tables side view target opcode list ≡ Err (refusals.BadObject place))
    ↔ ((m : MessageSignature) × ReachesArguments tables side view target opcode m × (length list ≡ length m.kinds)
    × ((k : ℕ) → k < length m.kinds → SuitsAt m.kinds list k) × IsFirstLost (look view) m.kinds list place)
lost-refused limit tables side view target opcode list place = (
  λ e.
      let l = late limit tables side view target opcode list (Err (refusals.BadObject place)) tt e in
      let p = lost_of limit (wrong_place 0 l.0.kinds list) (lost_place (look view) 0 l.0.kinds list)
      (message_len (map (wired 0) list)) place l.0 l.2 in
      let n = none-wrong 0 l.0.kinds list p.0 in
      (l.0, l.1, n.0, n.1, lost-first (look view) l.0.kinds list place p.1),
  λ f. reached limit tables side view target opcode list f.0 f.1
      ∙ (ap (λ (w : Option ℕ). signature_unless_wrong limit w (lost_place (look view) 0 f.0.kinds list)
      (message_len (map (wired 0) list)) f.0) (suited-all 0 f.0.kinds list f.2 f.3)
      ∙ ap (λ (l : Option ℕ). signature_unless_lost limit l (message_len (map (wired 0) list)) f.0)
      (first-lost (look view) f.0.kinds list place f.4)),
)
