-- The client has counted each object that its requests on the way are about. This stays so,
-- whichever end reads or writes next.
use Rattle.std.proofs.Common.{ℕ, ◌≤◌, List, [], ◌∷◌, ◌++◌, map, sym, subst, arith}
use Rattle.std.specs.declared.option.Option.{Option}
use Rattle.std.specs.declared.option.Option.TheVariants.{None, Some}
use Rattle.wl_object_map.specs.declared.object.Maker.{Maker}
use Rattle.wl_object_map.specs.declared.object.Maker.TheVariants.{Client}
use Rattle.theory_connection.specs.Meant.{Birth, IsAmongFirst, Known, Message, objects, made_in}
use Rattle.theory_connection.specs.World.{Row, Open, Each, IfThere}
use Rattle.theory_connection.specs.Flight.{Rows, with_made, births_in, Fresh, Ask, Use, IsAskedBelow, asks, make_ask}
use Rattle.theory_connection.specs.Flight.{destroy_ask}
use Rattle.theory_connection.specs.Stands.{ShowsBirths, birth_in, IsEndingOfServer}
use Rattle.theory_connection.proofs.EndedObject.{if_by}
use Rattle.theory_connection.proofs.Births.{counted_more, next_counted}
use Rattle.theory_connection.proofs.Sets.{made_counts, told_counts, ends_count}
use Rattle.theory_connection.proofs.WholeInFlight.{OpenRow, client_makes, client_ends, client_told, each_more, each_by}

-- what was counted is still counted if the counts are greater
below_more : (n m : Maker → ℕ) → ((k : Maker) → n k ≤ m k) → (qs : List Ask) → Each (IsAskedBelow n) qs
    → Each (IsAskedBelow m) qs
below_more n m l qs h = each_by (IsAskedBelow n) (IsAskedBelow m)
    (λ a c. counted_more _ n m c l) qs h

-- a message that makes one object and ends another lowers no count
makes_rise : (v : Rows Row) (n : Option Known) (k : Maker) → births_in v k ≤ births_in (client_makes v n) k
makes_rise v None k = omega arith
makes_rise v (Some x) k = made_counts v x.id (Open x.born) k

told_rise : (v : Rows Row) (n : Option Known) (k : Maker) → births_in v k ≤ births_in (client_told v n) k
told_rise v None k = omega arith
told_rise v (Some x) k = told_counts v x.id (Open x.born) k

-- The client reads an event.
pub below_told : (v : Rows Row) (n o : Option Known) (qs : List Ask) → Each (IsAskedBelow (births_in v)) qs
    → Each (IsAskedBelow (births_in (client_ends o (client_told v n)))) qs
below_told v n o qs h = subst (λ (b : Maker → ℕ). Each (IsAskedBelow b) qs) (sym (ends_count o (client_told v n)))
    (below_more (births_in v) (births_in (client_told v n)) (told_rise v n) qs h)

uses_below : (b : Maker → ℕ) (xs : List Known) → Each (λ x. IsAmongFirst b x.born.birth) xs
    → Each (IsAskedBelow b) (map Use xs)
uses_below b [] h = tt
uses_below b (x ∷ xs) h = (h.0, uses_below b xs h.1)

make_below : (b : Maker → ℕ) (o : Option Known) → IfThere (λ x. IsAmongFirst b x.born.birth) o
    → Each (IsAskedBelow b) (make_ask o)
make_below b None h = tt
make_below b (Some x) h = (h, tt)

destroy_below : (b : Maker → ℕ) (o : Option Known) → IfThere (λ x. IsAmongFirst b x.born.birth) o
    → Each (IsAskedBelow b) (destroy_ask o)
destroy_below b None h = tt
destroy_below b (Some x) h = (h, tt)

made_below : (v : Rows Row) (n : Option Known) → IfThere (Fresh v) n
    → IfThere (λ x. IsAmongFirst (births_in (client_makes v n)) x.born.birth) n
made_below v None f = tt
made_below v (Some x) f = next_counted x.born.birth Client v.births (births_in (with_made v x.id (Open x.born))) f.birth
    (omega arith)

-- The client writes a request, whose objects are open there.
pub below_asked : (v : Rows Row) {w : Birth → Option Row}
    → ShowsBirths birth_in IsEndingOfServer v.rows (births_in v) w → (m : Message Known) → OpenRow v m.target
    → Each (OpenRow v) (objects m.args) → IfThere (Fresh v) (made_in m.args) → IfThere (OpenRow v) m.ends
    → (qs : List Ask) → Each (IsAskedBelow (births_in v)) qs
    → Each (IsAskedBelow (births_in (client_ends m.ends (client_makes v (made_in m.args))))) (qs ++ asks m)
below_asked v {w} s m target args new ends qs h =
    let made = client_makes v (made_in m.args) in
    let b = births_in made in
    let open_below : (x : Known) → OpenRow v x → IsAmongFirst b x.born.birth =
    λ x k. counted_more x.born.birth (births_in v) b (s.below x.id (Open x.born) k) (makes_rise v (made_in m.args)) in
    subst (λ (c : Maker → ℕ). Each (IsAskedBelow c) (qs ++ asks m)) (sym (ends_count m.ends made))
    (each_more (IsAskedBelow b) qs (asks m) (below_more (births_in v) b (makes_rise v (made_in m.args)) qs h) (
      open_below m.target target,
      each_more (IsAskedBelow b) (map Use (objects m.args)) (make_ask (made_in m.args) ++ destroy_ask m.ends)
          (uses_below b (objects m.args) (each_by (OpenRow v) (λ x. IsAmongFirst b x.born.birth) open_below (objects m.args) args))
          (each_more (IsAskedBelow b) (make_ask (made_in m.args)) (destroy_ask m.ends)
          (make_below b (made_in m.args) (made_below v (made_in m.args) new))
          (destroy_below b m.ends (if_by open_below m.ends ends))),
    ))
