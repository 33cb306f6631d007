-- What one move does to a pair and to what is in flight, in full.
use Rattle.std.proofs.Common.{◌≡◌, ℕ, ◌≤◌, true, List, [], ◌∷◌, ◌++◌, map}
use Rattle.std.specs.declared.option.Option.{Option}
use Rattle.std.specs.declared.option.Option.TheVariants.{None, Some}
use Rattle.wl_wire.specs.Argument.{Uint, NewNamed}
use Rattle.wl_sigs.specs.Side.TheVariants.{Request as request_side}
use Rattle.wl_message.specs.Arrived.{in_front}
use Rattle.wl_message.specs.Cut.{Whole}
use Rattle.wl_message.specs.Outgoing.{Outgoing}
use Rattle.wl_object_map.specs.Objects.{Objects}
use Rattle.wl_object_map.specs.declared.object.Entry.{Entry}
use Rattle.wl_objects.specs.Messages.{is_bind}
use Rattle.wl_client.specs.declared.globals.Global.{Global as Remembered}
use Rattle.wl_client.specs.State as client
use Rattle.wl_server.specs.State.{Global, Registry}
use Rattle.theory_connection.specs.Meant.{IsAmongFirst, Known, Message, Coming, Event, Delete, Arg, objects, Born}
use Rattle.wl_object_map.specs.declared.object.Maker.{Maker}
use Rattle.theory_connection.specs.World.{World, Each, IfThere, delete, answer}
use Rattle.theory_connection.specs.Pair.{PairState, Move, Reply, with_client, with_server, carries}
use Rattle.theory_connection.specs.Pair.{after_carry_to_server, after_carry_to_client, after_post}
use Rattle.wl_object_map.specs.declared.object.Object.{Object}
use Rattle.theory_connection.specs.Meant.{made_in}
use Rattle.theory_connection.specs.Flight.{Rows, Name, make_tell, ends, tells, all_tells, IsBelow, births_in, server_rows}
use Rattle.theory_connection.specs.Answers.{Answers}
use Rattle.theory_connection.specs.Stands.{Stands, stands, over, StandsBy, StandsOver}
use Rattle.theory_connection.specs.Runs.{Keeps}
use Rattle.theory_connection.proofs.WholeInFlight.{ThereRow, id_maker, each_more}
use Rattle.theory_connection.proofs.RequestRead.{left_state}
use Rattle.theory_connection.proofs.EventRead.{after_event, after_delete, teaches}
use Rattle.theory_connection.proofs.RequestWritten.{CanAsk, asked_pair}

-- ---- facts about binds and about new events

-- the arguments of wl_registry.bind for a global that the client remembers, at no greater version
-- than was advertised
pub record BindsRemembered (globals : List Remembered) (args : List (Arg Known)) : Type 0 where
  pub name : ℕ
  pub iface : List ℕ
  pub version : ℕ
  pub new : Known
  pub args_are : args ≡ Uint name ∷ NewNamed iface version new ∷ []
  pub global : Remembered
  pub there : client.global_of globals name ≡ Some global
  pub iface_is : new.born.iface ≡ global.iface
  pub most : new.born.version ≤ global.version

abbrev Below : Rows Born → (Maker → ℕ) → Type 0
Below s births = (id : ℕ) (x : Born) → s.rows id ≡ Some x → IsAmongFirst births x.birth

names_below : (s : Rows Born) (births : Maker → ℕ) → Below s births → (xs : List Known) → Each (ThereRow s) xs
    → Each (IsBelow births) (map Name xs)
names_below s births b [] h = tt
names_below s births b (x ∷ xs) h = (b x.id x.born h.0, names_below s births b xs h.1)

ends_below : (births : Maker → ℕ) (o : Option Known) → IfThere (λ x. IsAmongFirst births x.born.birth) o
    → Each (IsBelow births) (ends o)
ends_below births None h = tt
ends_below births (Some x) h = (h, tt)

makes_below : (births : Maker → ℕ) (o : Option Known) → IfThere (λ x. IsAmongFirst births x.born.birth) o
    → Each (IsBelow births) (make_tell o)
makes_below births None h = tt
makes_below births (Some x) h = (h, tt)

-- the birth of a delete was counted
pub delete_below : (births : Maker → ℕ) (o : Option Known) → IfThere (λ x. IsAmongFirst births x.born.birth) o
    → Each (IsBelow births) (all_tells (delete o))
delete_below births None h = tt
delete_below births (Some x) h = (h, tt)

-- the births of an event were counted if its objects are there and its new object was counted
pub event_below : (s : Rows Born) (births : Maker → ℕ) → Below s births → (m : Message Known) → ThereRow s m.target
    → Each (ThereRow s) (objects m.args) → IfThere (λ x. IsAmongFirst births x.born.birth) (made_in m.args)
    → IfThere (λ x. IsAmongFirst births x.born.birth) m.ends
    → Each (IsBelow births) (tells (Event m))
event_below s births b m h hs n e =
    let t = b m.target.id m.target.born h in (
      t,
      each_more (IsBelow births) (map Name (objects m.args)) (make_tell (made_in m.args) ++ ends m.ends)
          (names_below s births b (objects m.args) hs)
          (each_more (IsBelow births) (make_tell (made_in m.args)) (ends m.ends)
          (makes_below births (made_in m.args) n) (ends_below births m.ends e)),
    )

-- ---- the effect of a move

-- the pair after its server wrote something
abbrev pub told_pair : PairState → Objects → Outgoing → List Registry → PairState
told_pair p view outbox registries = with_server p
    (record p.server { core = record p.server.core { view = view; outbox = outbox }; registries = registries })

-- A move led from a pair with these requests and events in flight to one with those in flight.
pub data LeadsTo (p : PairState) (asked : List (Message Known)) (told : List (Coming Known)) : PairState
    → List (Message Known) → List (Coming Known) → Type 0 where
  stays : LeadsTo p asked told p asked told
  -- a global was given or withdrawn
  giving : (more : List Global) → LeadsTo p asked told (with_server p (record p.server { globals = more })) asked told
  -- the client wrote a request
  asking : (m : Message Known) (c : CanAsk p m) →
      (is_bind request_side m.target.born.iface m.opcode ≡ true → BindsRemembered p.client.globals m.args)
      → LeadsTo p asked told (asked_pair p m) (asked ++ m ∷ []) told
  -- the server wrote events or deletes; it has counted their births
  telling : (view : Objects) (outbox : Outgoing) (registries : List Registry) (news : List (Coming Known))
      → ((k : Maker) → births_in (server_rows p.server.core.view) k ≤ births_in (server_rows view) k)
      → Each (IsBelow (births_in (server_rows view))) (all_tells news)
      → LeadsTo p asked told (told_pair p view outbox registries) asked (told ++ news)
  -- the server read the first request, and wrote its delete if the request needs one
  reading_request : (m : Message Known) (ms : List (Message Known)) (n : ℕ) → asked ≡ m ∷ ms
      → in_front p.server.core.inbox ≡ Whole n
      → IfThere (λ x. IsAmongFirst (births_in (server_rows p.server.core.view)) x.born.birth) m.ends
      → LeadsTo p asked told (with_server p (left_state p.server m n)) ms (told ++ answer id_maker m.ends)
  -- the client read the first of what comes
  reading_event : (m : Message Known) (cs : List (Coming Known)) (n : ℕ) (entry : Entry) → told ≡ Event m ∷ cs
      → in_front p.client.core.inbox ≡ Whole n
      → LeadsTo p asked told (with_client p (after_event p.client m n (teaches m entry))) asked cs
  reading_delete : (x : Known) (cs : List (Coming Known)) (n : ℕ) → told ≡ Delete x ∷ cs
      → in_front p.client.core.inbox ≡ Whole n
      → LeadsTo p asked told (with_client p (after_delete p.client x n)) asked cs
  carrying_to_server : (most : ℕ) → LeadsTo p asked told
      (after_carry_to_server p (carries p.client.core p.server.core most)) asked told
  carrying_to_client : (most : ℕ) → LeadsTo p asked told
      (after_carry_to_client p (carries p.server.core p.client.core most)) asked told

-- the pair represents the world, with what is now in flight; or an error was posted; or the client
-- has read it
pub data Outcome (p : PairState) (asked : List (Message Known)) (told : List (Coming Known)) (p' : PairState)
    (w' : World) : Type 0 where
  goes_on : (asked' : List (Message Known)) (told' : List (Coming Known)) → StandsBy p' w' asked' told'
      → LeadsTo p asked told p' asked' told'
      → Outcome p asked told p' w'
  posts_it : (object : Object) (code : ℕ) (text : List ℕ) → p' ≡ after_post p object code text
      → StandsBy p' w' asked told → Outcome p asked told p' w'
  ends_it : (left : List (Message Known)) → p.server.core.failed ≡ true → StandsOver p' w' left
      → Outcome p asked told p' w'

-- a step of the pair in its world, with its effect
pub record Moves (p : PairState) (w : World) (asked : List (Message Known)) (told : List (Coming Known)) (move : Move)
    (reply : Reply) (p' : PairState) : Type 0 where
  pub world : World
  pub answers : Answers p w move reply p' world
  pub outcome : Outcome p asked told p' world

outcome_stands : {p p' : PairState} {w' : World} {asked : List (Message Known)} {told : List (Coming Known)}
    → Outcome p asked told p' w' → Stands p' w'
outcome_stands (goes_on a t s h) = stands a t s
outcome_stands {asked = asked} {told = told} (posts_it object code text e s) = stands asked told s
outcome_stands (ends_it left f o) = over left o

-- the same step without its effect
pub forget : {p p' : PairState} {w : World} {asked : List (Message Known)} {told : List
    (Coming Known)} {move : Move} {reply : Reply} → Moves p w asked told move reply p' → Keeps p w move reply p'
forget m = record { world = m.world; answers = m.answers; stands = outcome_stands m.outcome }
