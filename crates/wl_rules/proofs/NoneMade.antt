-- V11 allows a message that has no new object of the server.
use Rattle.std.proofs.Common.{◌≡◌, ℕ, ◌+◌, List, [], ◌∷◌, Bool, true, false, refl, sym, ◌∙◌}
use Rattle.std.proofs.Common.{Option, not, cond, nat_le, ◌&&◌, arith}
use Rattle.std.specs.List.{list_all, count_by}
use Rattle.std.specs.Option.{option_map_or}
use Rattle.std.proofs.lemmas.List.Sums.{sum_by-cons}
use Rattle.wl_text.specs.Text.{WrittenKind}
use Rattle.wl_rules.specs.declared.side.Side.{Side}
use Rattle.wl_rules.specs.declared.side.Side.TheVariants.{Request, Event}
use Rattle.wl_rules.specs.Broken.{is_made_by_server, makes_server_object, is_forbidden}
use Rattle.wl_rules.specs.Broken.{makes_forbidden, most_by_server}

-- a message without new objects of the server has none that is forbidden
none_bad : (place : List ℕ → Option ℕ) (ended : List Bool) (ks : List WrittenKind)
    → count_by makes_server_object ks ≡ 0 → list_all (λ k. not (makes_forbidden place ended k)) ks ≡ true
none_bad place ended [] none = refl
none_bad place ended (k ∷ ks) none =
    by_test (is_made_by_server k.kind) (option_map_or (λ name. is_forbidden ended (place name)) k.iface false)
    (count_by makes_server_object ks) (list_all (λ k. not (makes_forbidden place ended k)) ks)
    (sym (sum_by-cons (λ (x : WrittenKind). cond (makes_server_object x) 1 0) k ks) ∙ none)
    (none_bad place ended ks)
  where
    no_more : (n : ℕ) → 1 + n ≡ 0 → ⊥
    no_more n e = omega (arith, e)

    by_test : (made bad : Bool) (n : ℕ) (rest : Bool) → cond made 1 0 + n ≡ 0 → (n ≡ 0 → rest ≡ true)
        → not (made && bad) && rest ≡ true
    by_test true bad n rest e more = absurd (no_more n e)
    by_test false bad n rest e more = more (omega (arith, e))

pub none_made : (place : List ℕ → Option ℕ) (ended : List Bool) (side : Side) (ks : List WrittenKind)
    → count_by makes_server_object ks ≡ 0
    → true ≡ nat_le (count_by makes_server_object ks) (most_by_server side)
    && list_all (λ k. not (makes_forbidden place ended k)) ks
none_made place ended side ks none =
    rw (none, none_bad place ended ks none) (by_side side)
  where
    by_side : (side : Side) → true ≡ nat_le 0 (most_by_server side) && true
    by_side Request = refl
    by_side Event = refl
