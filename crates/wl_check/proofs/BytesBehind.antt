-- The bytes of a direction after a message that was passed over.
use Rattle.std.proofs.Common.{◌≡◌, ℕ, ◌+◌, Bool, true, false, not, List, drop, length, sym, ap, ◌∙◌}
use Rattle.std.proofs.lemmas.List.{drop-drop}
use Rattle.wl_check.specs.FollowedBytes.{FollowedBytes}
use Rattle.wl_check.specs.Following.{bytes_behind}

pub behind_good : (bytes : List ℕ) (gone index end size later number place : ℕ) (lost good : Bool) (b : FollowedBytes)
    → good ≡ true → b ≡ record { waiting = drop gone bytes; kept = length bytes; index = index; end = end; is_lost = lost }
    → later ≡ gone + size → number ≡ index + 1 → place ≡ end + size
    → record { waiting = drop later bytes; kept = length bytes; index = number; end = place; is_lost = not good }
    ≡ bytes_behind good size b
behind_good bytes gone index end size later number place lost good b is_good b_is later_is number_is place_is =
    let w : drop later bytes ≡ drop size (drop gone bytes) =
    ap (λ (n : ℕ). drop n bytes) later_is ∙ sym (drop-drop size gone bytes) in
    rw (is_good, b_is) (λ i. record { waiting = w i; kept = length bytes; index = number_is i; end = place_is i; is_lost = false })
