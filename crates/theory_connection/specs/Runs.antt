-- Runs of moves.
use Rattle.std.specs.Prelude.{◌≡◌, ◌↔◌, ℕ, ◌<◌, ◌^◌, Bool, true, false, not, ◌&&◌, ltb, List, []}
use Rattle.std.specs.Prelude.{◌∷◌, Some, FitsSigned}
use Rattle.std.specs.Int.{w32}
use Rattle.wl_wire.specs.Argument.{Int, Uint, Fixed, NewNamed}
use Rattle.wl_object_map.specs.declared.object.Entry.{Entry}
use Rattle.wl_object_map.specs.declared.object.State.TheVariants as states
use Rattle.wl_object_map.specs.declared.object.Maker.TheVariants.{Server}
use Rattle.wl_object_map.specs.Ranges.{is_of_server}
use Rattle.wl_object_map.specs.View.{times}
use Rattle.wl_object_map.specs.Objects.{Objects, look, is_held, is_live, in_range, ids_used}
use Rattle.wl_object_map.specs.Objects.{next_birth}
use Rattle.wl_objects.specs.Writing.{Given}
use Rattle.theory_connection.specs.World.{World, Each}
use Rattle.theory_connection.specs.Pair.{PairState, Move, Reply, ClientSend, ServerSend, PostError}
use Rattle.theory_connection.specs.Pair.{AddGlobal, Does}
use Rattle.theory_connection.specs.Answers.{Answers}
use Rattle.theory_connection.specs.Stands.{Stands}

-- The run of these moves: each pair represents its world, and each reply is one that the world
-- allows.
abbrev pub Runs : PairState → World → List Move → List Reply → PairState → Type 0
Runs pair world [] [] last = pair ≡ last
Runs pair world (move ∷ moves) (reply ∷ replies) last =
    (next : PairState) × (world' : World)
    × Answers pair world move reply next world' × Stands next world'
    × Runs next world' moves replies last
Runs pair world _ _ last = ⊥

-- What both ends do in these moves, one after another.
abbrev pub DoesAll : PairState → List Move → List Reply → PairState → Type 0
DoesAll pair [] [] last = pair ≡ last
DoesAll pair (move ∷ moves) (reply ∷ replies) last =
    (next : PairState) × Does pair move reply next × DoesAll next moves replies last
DoesAll pair _ _ last = ⊥

-- numbers are those of 32 bits
abbrev pub FitsWords : Given → Type 0
FitsWords (Int z) = FitsSigned w32 z
FitsWords (Uint n) = n < 2 ^ 32
FitsWords (Fixed z) = FitsSigned w32 z
FitsWords (NewNamed iface version x) = version < 2 ^ 32
FitsWords _ = Unit {0}

-- a move whose numbers are in their ranges, as those of any program are
abbrev pub IsMove : Move → Type 0
IsMove (ClientSend target opcode given) = Each FitsWords given
IsMove (ServerSend target opcode given) = Each FitsWords given
IsMove (PostError object code text) = code < 2 ^ 32
IsMove (AddGlobal iface version) = version < 2 ^ 32
IsMove _ = Unit {0}

-- whether an id was used and is now free
abbrev pub is_freed : Objects → ℕ → Bool
is_freed objects id = in_range (λ view place. ltb 0 (times place view.freed)) objects id

-- whether an id has the row of an object that has ended
abbrev pub is_zombie : Objects → ℕ → Bool
is_zombie objects id = is_held objects id && not (is_live objects id)

-- Both ends have the same rows in the client's range, all live.
pub record AgreeByClient (client server : Objects) : Type 0 where
  pub same : (id : ℕ) → is_of_server id ≡ false → look client id ≡ look server id
  pub live : (id : ℕ) (e : Entry) → is_of_server id ≡ false → look client id ≡ Some e
      → e.state ≡ states.Live

-- In the server's range the client's live rows are the server's. An id there has a zombie at the
-- client if and only if the server has freed it, since no delete_id informs the client. Both have
-- used the same number of ids there and counted the same number of births.
pub record AgreeByServer (client server : Objects) : Type 0 where
  pub same : (id : ℕ) (e : Entry) → is_of_server id ≡ true
      → (look server id ≡ Some e) ↔ ((look client id ≡ Some e) × (e.state ≡ states.Live))
  pub freed : (id : ℕ) → is_of_server id ≡ true → is_zombie client id ≡ is_freed server id
  pub used : ids_used Server client ≡ ids_used Server server
  pub births : next_birth Server client ≡ next_birth Server server

-- Both ends have the same objects, in either range.
pub record Agree (client server : Objects) : Type 0 where
  pub by_client : AgreeByClient client server
  pub by_server : AgreeByServer client server

-- a step of the pair in its world
pub record Keeps (p : PairState) (w : World) (move : Move) (reply : Reply) (p' : PairState)
    : Type 0 where
  pub world : World
  pub answers : Answers p w move reply p' world
  pub stands : Stands p' world
