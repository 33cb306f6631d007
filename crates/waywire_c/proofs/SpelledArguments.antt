-- Arguments that a body spells: one more; then all of them, or those up to the first fault.
use Rattle.std.proofs.Common.{◌≡◌, ℕ, suc, ◌+◌, ◌-◌, ◌<◌, ◌≤◌, refl, sym, ap, ◌∙◌, subst, arith, List, []}
use Rattle.std.proofs.Common.{◌∷◌, ◌++◌, length, map, take, drop, set, get_or, append_assoc, drop-cons, Some, None}
use Rattle.std.specs.Prelude.{min}
use Rattle.std.proofs.lemmas.Grind.{common_steps}
use Rattle.std.proofs.lemmas.List.{append-nil, length-drop, length-map, length-set, length-take-le, map-append, take_all}
use Rattle.std.proofs.lemmas.List.{take-append-drop, take_more, take_more_set}
use Rattle.std.proofs.Math.Nat.{min-eq_left}
use Rattle.std.proofs.Math.Seq.{take-add}
use Rattle.wl_wire.specs.declared.kind.Kind.{Kind}
use Rattle.wl_wire.specs.declared.kind.ArgFault.{ArgFault}
use Rattle.wl_wire.specs.Argument.{Argument}
use Rattle.wl_wire.specs.Faults.{IsFirstFault}
use Rattle.wl_wire.specs.Spelling.{Spells}
use Rattle.wl_objects.specs.declared.error.Fault.TheVariants as faults
use Rattle.wl_objects.specs.Spelling as spelling
use Rattle.wl_objects.specs.Spelling.{SpellsAll}
use Rattle.waywire_c.specs.declared.values.ReportArg.{ReportArg}
use Rattle.waywire_c.specs.Decoding as decoding
use Rattle.waywire_c.specs.Decoding.{bare_argument, Spelled, TellsSpelled}
use Rattle.waywire_c.specs.Reports.{arg_told, arg_told_by, TellsArgs}

spells-snoc : {ks : List Kind} {vs : List Argument} {b : List ℕ} (k : Kind) (v : Argument) (f : List ℕ)
    → SpellsAll ks vs b → Spells k v f → SpellsAll (ks ++ k ∷ []) (vs ++ v ∷ []) (b ++ f)
spells-snoc k v f (spelling.none e) s = spelling.more s (spelling.none refl) (rw (e, append-nil) refl)
spells-snoc k v f (spelling.more h t e) s = spelling.more h (spells-snoc k v f t s) (rw (e, append_assoc) refl)

spelled-count : {ks : List Kind} {vs : List Argument} {b : List ℕ} → SpellsAll ks vs b → length vs ≡ length ks
spelled-count (spelling.none e) = refl
spelled-count (spelling.more h t e) = ap suc (spelled-count t)

-- The arguments spelled so far are written to the first slots; the other slots stay.
pub record So (kinds : List Kind) (body : List ℕ) (place len : ℕ) (before slots : List ReportArg) : Type 0 where
  pub values : List Argument
  pub front : SpellsAll (take place kinds) values (take len body)
  pub reach : place ≤ length kinds
  pub within : len ≤ length body
  pub room : length slots ≡ length before
  pub told : map arg_told_by (take place slots) ≡ map arg_told (map bare_argument values)
  pub left : drop place slots ≡ drop place before

pub so-none : (kinds : List Kind) (body : List ℕ) (before : List ReportArg) → So kinds body 0 0 before before
so-none kinds body before = record {
  values = [];
  front = spelling.none refl;
  reach = omega arith;
  within = omega arith;
  room = refl;
  told = refl;
  left = refl;
}

-- the bytes from a place on, as the code borrows them
pub rest-is : (body : List ℕ) (len : ℕ) → take (length body - len) (drop len body) ≡ drop len body
rest-is body len = take_all (length body - len) (drop len body) (omega (arith, length-drop len body))

pub so-more : (kinds : List Kind) (body : List ℕ) (place len n : ℕ) (before slots : List ReportArg) (k : Kind)
    (v : Argument) (filled : ReportArg) (rest : List ℕ)
    → So kinds body place len before slots → place < length kinds → length kinds ≤ length before
    → rest ≡ drop len body → n ≤ length rest → Spells (get_or kinds place k) v (take n rest)
    → arg_told_by filled ≡ arg_told (bare_argument v)
    → So kinds body (place + 1) (len + n) before (set slots place filled)
so-more kinds body place len n before slots k v filled rest so lt enough is fits spells same =
    let there : n ≤ length (drop len body) = subst (λ (b : List ℕ). n ≤ length b) is fits in
    let s : Spells (get_or kinds place k) v (take n (drop len body)) =
    subst (λ (b : List ℕ). Spells (get_or kinds place k) v (take n b)) is spells in
    let within : place < length slots = omega (arith, so.room, lt, enough) in
    let kinds-more = take_more kinds place k lt in
    let body-more : take (len + n) body ≡ take len body ++ take n (drop len body) = take-add len n body in
    let slots-more = take_more_set slots place filled within in
    let behind : drop (place + 1) slots ≡ drop (place + 1) before =
    grind (arith, common_steps, so.room, so.left, within) in
    record {
      values = so.values ++ v ∷ [];
      front = rw (kinds-more, body-more) (spells-snoc (get_or kinds place k) v (take n (drop len body)) so.front s);
      reach = omega (arith, lt);
      within = omega (arith, there, so.within, length-drop len body);
      room = length-set slots place filled ∙ so.room;
      told = ap (map arg_told_by) slots-more
          ∙ (map-append arg_told_by (take place slots) (filled ∷ [])
          ∙ ((λ i. so.told i ++ same i ∷ [])
          ∙ (sym (map-append arg_told (map bare_argument so.values) (bare_argument v ∷ []))
          ∙ ap (map arg_told) (sym (map-append bare_argument so.values (v ∷ []))))));
      left = grind (arith, common_steps, behind, within);
    }

told-args : (values : List Argument) (place : ℕ) (before slots : List ReportArg) → length values ≡ place
    → place ≤ length before → map arg_told_by (take place slots) ≡ map arg_told (map bare_argument values)
    → drop place slots ≡ drop place before → TellsArgs (map bare_argument values) before slots
told-args values place before slots count room told left =
    let same : length (map bare_argument values) ≡ place = length-map values bare_argument ∙ count in
    let n : min (length (map bare_argument values)) (length before) ≡ place =
    ap (λ (m : ℕ). min m (length before)) same ∙ min-eq_left room in
    let all : take place (map bare_argument values) ≡ map bare_argument values = take_all place (map bare_argument values) (omega (arith, same)) in
    record { first = rw n (told ∙ ap (map arg_told) (sym all)); rest = rw n left }

pub so-broken : (kinds : List Kind) (body : List ℕ) (place len : ℕ) (before slots : List ReportArg) (k : Kind)
    (fault : ArgFault) (rest : List ℕ)
    → So kinds body place len before slots → place < length kinds → length kinds ≤ length before
    → rest ≡ drop len body → IsFirstFault (get_or kinds place k) rest fault
    → TellsSpelled kinds body place (Some (faults.BadArgument place fault)) before slots
so-broken kinds body place len before slots k fault rest so lt enough same first =
    let is = subst (λ (b : List ℕ). IsFirstFault (get_or kinds place k) b fault) same first in
    let lead : length (take place kinds) ≡ place = length-take-le place kinds so.reach in
    let count : length so.values ≡ place = spelled-count so.front ∙ lead in
    let split : kinds ≡ take place kinds ++ get_or kinds place k ∷ drop (suc place) kinds =
    sym (take-append-drop place kinds) ∙ ap (λ (l : List Kind). take place kinds ++ l) (drop-cons kinds place k lt) in
    record {
      values = so.values;
      spelled = subst (λ (n : ℕ). Spelled kinds body so.values (Some (faults.BadArgument n fault))) lead
          (decoding.broken (get_or kinds place k) (drop (suc place) kinds) (drop len body) split so.front is
          (sym (take-append-drop len body)));
      count_is = sym count;
      told = told-args so.values place before slots count (omega (arith, lt, enough)) so.told so.left;
    }

record Whole (kinds : List Kind) (body : List ℕ) (place len : ℕ) (before slots : List ReportArg)
    (values : List Argument) : Type 0 where
  front : SpellsAll kinds values (take len body)
  count : length kinds ≡ length values
  told : TellsArgs (map bare_argument values) before slots

whole : (kinds : List Kind) (body : List ℕ) (place len : ℕ) (before slots : List ReportArg)
    → (so : So kinds body place len before slots) → length kinds ≤ place → length kinds ≤ length before
    → Whole kinds body place len before slots so.values
whole kinds body place len before slots so over enough =
    let front = subst (λ (ks : List Kind). SpellsAll ks so.values (take len body)) (take_all place kinds over) so.front
    in
    let count : length so.values ≡ place = omega (arith, spelled-count front, so.reach, over) in
    record {
      front = front;
      count = sym (spelled-count front);
      told = told-args so.values place before slots count (omega (arith, so.reach, enough)) so.told so.left;
    }

pub so-whole : (kinds : List Kind) (body : List ℕ) (place len : ℕ) (before slots : List ReportArg)
    → So kinds body place len before slots → length kinds ≤ place → length kinds ≤ length before → length body ≤ len
    → TellsSpelled kinds body (length kinds) None before slots
so-whole kinds body place len before slots so over enough end =
    let w = whole kinds body place len before slots so over enough in
    record {
      values = so.values;
      spelled = decoding.whole
          (subst (λ (b : List ℕ). SpellsAll kinds so.values b) (take_all len body end) w.front);
      count_is = w.count;
      told = w.told;
    }

pub so-longer : (kinds : List Kind) (body : List ℕ) (place len : ℕ) (before slots : List ReportArg)
    → So kinds body place len before slots → length kinds ≤ place → length kinds ≤ length before → len < length body
    → TellsSpelled kinds body (length kinds) (Some faults.TrailingBytes) before slots
so-longer kinds body place len before slots so over enough more =
    let w = whole kinds body place len before slots so over enough in
    record {
      values = so.values;
      spelled = decoding.longer (drop len body) w.front (λ e. omega (arith, ap length e, length-drop len body, more))
          (sym (take-append-drop len body));
      count_is = w.count;
      told = w.told;
    }
