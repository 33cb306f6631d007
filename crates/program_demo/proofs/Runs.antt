-- Consecutive parts of a session.
use Rattle.std.proofs.Common.{◌≡◌, Bool, true, false, List, [], ◌∷◌, ◌++◌, ◌||◌, map, ap, ◌∙◌, refl}
use Rattle.std.proofs.Common.{sym, subst, OnOk, ◌<◌}
use Rattle.std.specs.List.{list_any}
use Rattle.std.specs.declared.result.Result.{Result}
use Rattle.std.specs.declared.result.Result.TheVariants.{Ok, Err}
use Rattle.theory_connection.specs.World.{World}
use Rattle.theory_connection.specs.Pair.{PairState, Move, Reply}
use Rattle.theory_connection.specs.Stands.{Stands}
use Rattle.theory_connection.specs.Runs.{Runs, DoesAll}
use Rattle.program_demo.specs.Session.{DemoStep, Until, each_once}
use Rattle.program_demo.proofs.LessIsLeft.{left_for, less_left}
use Rattle.program_demo.specs.Playing.{does_something, lacks_memory, FollowsSteps, finished, once, again}
use Rattle.program_demo.specs.Playing.{at_last, Ran, Plays}

-- a world that the last pair of a run represents, and in which the run can go on
record Ends (pair : PairState) (world : World) (moves : List Move) (replies : List Reply)
    (last : PairState) : Type 0 where
  here : World
  stands : Stands last here
  goes_on : (others : List Move) (answers : List Reply) (end : PairState) → Runs last here others answers end
      → Runs pair world (moves ++ others) (replies ++ answers) end

ends : (pair : PairState) (world : World) (moves : List Move) (replies : List Reply) (last : PairState)
    → Stands pair world → Runs pair world moves replies last
    → Ends pair world moves replies last
ends pair world [] [] last standing run = record {
  here = world;
  stands = subst (λ (p : PairState). Stands p world) run standing;
  goes_on = λ others answers end more. subst (λ (p : PairState). Runs p world others answers end) (sym run) more;
}
ends pair world (move ∷ moves) (reply ∷ replies) last standing (next, world', answers, standing', run) =
    let inner : Ends next world' moves replies last = ends next world' moves replies last standing' run in record {
      here = inner.here;
      stands = inner.stands;
      goes_on = λ others more end rest. (next, world', answers, standing', inner.goes_on others more end rest);
    }
ends pair world [] (reply ∷ replies) last standing run = absurd run
ends pair world (move ∷ moves) [] last standing run = absurd run

-- the effects of two lists of moves, one after the other
does_on : (first : PairState) (moves : List Move) (replies : List Reply) (middle : PairState) (others : List Move)
    (answers : List Reply) (last : PairState)
    → DoesAll first moves replies middle → DoesAll middle others answers last
    → DoesAll first (moves ++ others) (replies ++ answers) last
does_on first [] [] middle others answers last one two =
    subst (λ (p : PairState). DoesAll p others answers last) (sym one) two
does_on first (move ∷ moves) (reply ∷ replies) middle others answers last (next, does, one) two =
    (next, does, does_on next moves replies middle others answers last one two)
does_on first [] (reply ∷ replies) middle others answers last one two = absurd one
does_on first (move ∷ moves) [] middle others answers last one two = absurd one

-- the moves of two lists of parts, one after the other
follows_on : {parts others : List DemoStep} {moves rest : List Move} {replies answers : List Reply}
    → FollowsSteps parts moves replies → FollowsSteps others rest answers
    → FollowsSteps (parts ++ others) (moves ++ rest) (replies ++ answers)
follows_on finished more = more
follows_on (once granted f) more = once granted (follows_on f more)
follows_on (again granted busy f) more = again granted busy (follows_on f more)
follows_on (at_last granted idle f) more = at_last granted idle (follows_on f more)

pub plays_on : (parts others : List DemoStep) (first middle last : PairState) → Plays parts first middle
    → Plays others middle last → Plays (parts ++ others) first last
plays_on parts others first middle last one two = record {
  moves = one.moves ++ two.moves;
  replies = one.replies ++ two.replies;
  follows = follows_on one.follows two.follows;
  does = does_on first one.moves one.replies middle two.moves two.replies last one.does two.does;
  runs = λ world stands.
      let end = ends first world one.moves one.replies middle stands (one.runs world stands) in
      end.goes_on two.moves two.replies last (two.runs end.here end.stands);
}

pub plays_then : {X E : Type 0} (result : Result X E) (parts others : List DemoStep) (first middle last : PairState)
    → Plays parts first middle → OnOk result (Plays others middle last)
    → OnOk result (Plays (parts ++ others) first last)
plays_then (Ok x) parts others first middle last one two = plays_on parts others first middle last one two
plays_then (Err e) parts others first middle last one two = tt

-- ---- moves made once

neither : (a b : Bool) → (a || b) ≡ false → (a ≡ false) × (b ≡ false)
neither false b h = (refl, h)
neither true b h = cc h

either : (a : Bool) → (a || false) ≡ true → a ≡ true
either true h = refl
either false h = cc h

-- a test of the images of items
pub any_mapped : {X Y : Type 0} (f : X → Y) (test : Y → Bool) (xs : List X)
    → list_any test (map f xs) ≡ list_any (λ x. test (f x)) xs
any_mapped f test [] = refl
any_mapped f test (x ∷ xs) = ap (λ (b : Bool). test (f x) || b) (any_mapped f test xs)

follows_once : (pair : PairState) (moves : List Move) (replies : List Reply) (last : PairState)
    → DoesAll pair moves replies last
    → list_any lacks_memory replies ≡ false → FollowsSteps (each_once moves) moves replies
follows_once pair [] [] last does granted = finished
follows_once pair (move ∷ moves) (reply ∷ replies) last (next, first, does) granted =
    let g = neither (lacks_memory reply) (list_any lacks_memory replies) granted
    in once g.0 (follows_once next moves replies last does g.1)
follows_once pair [] (reply ∷ replies) last does granted = absurd does
follows_once pair (move ∷ moves) [] last does granted = absurd does

-- a list of moves, each made once
pub plays_once : (pair : PairState) (moves : List Move) (replies : List Reply) (last : PairState)
    → Ran pair moves replies last → Plays (each_once moves) pair last
plays_once pair moves replies last ran = record {
  moves = moves;
  replies = replies;
  follows = follows_once pair moves replies last ran.does ran.granted;
  does = ran.does;
  runs = ran.runs;
}

-- ---- a move that is repeated

-- a move that did something, followed by its repetition
pub plays_again : (move : Move) (replies : List Reply) (first next last : PairState)
    → Ran first (move ∷ []) replies next → list_any does_something replies ≡ true
    → Plays (Until move ∷ []) next last → Plays (Until move ∷ []) first last
plays_again move (reply ∷ []) first next last ran busy more =
    let granted = neither (lacks_memory reply) false ran.granted in record {
      moves = move ∷ more.moves;
      replies = reply ∷ more.replies;
      follows = again granted.0 (either (does_something reply) busy) more.follows;
      does = does_on first (move ∷ []) (reply ∷ []) next more.moves more.replies last ran.does more.does;
      runs = λ world stands.
          let end = ends first world (move ∷ []) (reply ∷ []) next stands (ran.runs world stands) in
          end.goes_on more.moves more.replies last (more.runs end.here end.stands);
    }
plays_again move [] first next last ran busy more = absurd ran.does
plays_again move (reply ∷ other ∷ replies) first next last ran busy more = absurd ran.does.2

-- a move that did nothing ends its repetition
pub plays_last : (move : Move) (replies : List Reply) (first last : PairState) → Ran first (move ∷ []) replies last
    → list_any does_something replies ≡ false
    → Plays (Until move ∷ []) first last
plays_last move (reply ∷ []) first last ran idle =
    let granted = neither (lacks_memory reply) false ran.granted in
    let quiet = neither (does_something reply) false idle in record {
      moves = move ∷ [];
      replies = reply ∷ [];
      follows = at_last granted.0 quiet.0 finished;
      does = ran.does;
      runs = ran.runs;
    }
plays_last move [] first last ran idle = absurd ran.does
plays_last move (reply ∷ other ∷ replies) first last ran idle = absurd ran.does.2

-- each repetition leaves less
pub less_after : (move : Move) (replies : List Reply) (first next : PairState) → Ran first (move ∷ []) replies next
    → list_any does_something replies ≡ true
    → left_for move next < left_for move first
less_after move (reply ∷ []) first next ran busy =
    subst (λ (p : PairState). left_for move p < left_for move first) ran.does.2
    (less_left move reply first ran.does.0 ran.does.1 (either (does_something reply) busy))
less_after move [] first next ran busy = absurd ran.does
less_after move (reply ∷ other ∷ replies) first next ran busy = absurd ran.does.2

-- ---- borrowed lists of moves

pub plays_these : {X : Type 0} (meaning : List X → List Move) (lent items : List X) (moves : List Move)
    (first last : PairState) → lent ≡ items → meaning items ≡ moves
    → Plays (each_once (meaning lent)) first last → Plays (each_once moves) first last
plays_these meaning lent items moves first last same is plays =
    subst (λ (ms : List Move). Plays (each_once ms) first last) (ap meaning same ∙ is) plays
