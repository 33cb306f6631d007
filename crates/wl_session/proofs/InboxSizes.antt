-- No call changes how much an inbox can hold.
use Rattle.std.proofs.Common.{◌≡◌, ℕ, Bool, true, false, cond, List, [], ◌∷◌, refl, sym, subst, take, IfOk, IfErr}
use Rattle.std.specs.declared.option.Option.{Option}
use Rattle.std.specs.declared.option.Option.TheVariants.{None, Some}
use Rattle.std.specs.declared.result.Result.{Result}
use Rattle.std.specs.declared.result.Result.TheVariants.{Ok, Err}
use Rattle.wl_message.specs.Arrived.{Arrived}
use Rattle.wl_objects.specs.declared.error.SendError.{SendError}
use Rattle.wl_objects.specs.declared.error.SendError.TheVariants as refusals
use Rattle.wl_objects.specs.declared.error.NextError.{NextError}
use Rattle.wl_objects.specs.declared.error.NextError.TheVariants as errors
use Rattle.wl_objects.specs.declared.error.Fault.{Fault}
use Rattle.wl_connection.specs.Core.{Core}
use Rattle.wl_connection.specs.Receiving.{Found}
use Rattle.wl_connection.specs.Roles.{front_left}
use Rattle.wl_connection.specs.Outcomes.{unless_memory}
use Rattle.wl_connection.specs.Sending.{with_following, with_sent}
use Rattle.wl_server.specs.State as server
use Rattle.wl_server.specs.Requests as requests
use Rattle.wl_server.specs.declared.announce.Announced.{Announced}
use Rattle.wl_server.specs.Announcing.{Due, Fitting, with_dues, owed_opcode, values_of, after_announce, owed}
use Rattle.wl_session.specs.Room.{HoldsInbox}

-- the two inboxes can hold as much
pub record AsLarge (a b : Arrived) : Type 0 where
  pub bytes : a.capacity ≡ b.capacity
  pub tokens : a.token_capacity ≡ b.token_capacity

pub same_size : (a : Arrived) → AsLarge a a
same_size a = record { bytes = refl; tokens = refl }

following_box : (b : Bool) (id : ℕ) (core : Core) → AsLarge (with_following b id core).inbox core.inbox
following_box true id core = record { bytes = refl; tokens = refl }
following_box false id core = record { bytes = refl; tokens = refl }

dues_box : (core : Core) (dues : List Due) → AsLarge (with_dues core dues).inbox core.inbox
dues_box core [] = same_size core.inbox
dues_box core (due ∷ dues) = let k = dues_box (with_sent core due.object.id (owed_opcode due.owing)
    (values_of core.tables due.owing) []) dues in record { bytes = k.bytes; tokens = k.tokens }

pub announce_box : (state : server.State) (count : ℕ) → AsLarge (after_announce state count).core.inbox state.core.inbox
announce_box state count = dues_box state.core (take count (owed state))

request_box : (state : server.State) (b : Bool) (f : Found)
    → AsLarge (cond b state (requests.state_past state f)).core.inbox state.core.inbox
request_box state true f = same_size state.core.inbox
request_box state false f = let k = following_box (requests.owes_delete_id state.core f) (requests.ended state.core f).id _
    in record { bytes = k.bytes; tokens = k.tokens }

read_box : (state : server.State) (r : Result (Option Found) Fault)
    → AsLarge (front_left requests.server_role state r).core.inbox state.core.inbox
read_box state (Err fault) = record { bytes = refl; tokens = refl }
read_box state (Ok None) = same_size state.core.inbox
read_box state (Ok (Some f)) = request_box state (requests.is_out_full state.core f) f

next_server : (state : server.State) (b : Bool) → AsLarge
    (cond b state (front_left requests.server_role state (requests.request state))).core.inbox state.core.inbox
next_server state true = same_size state.core.inbox
next_server state false = read_box state (requests.request state)

pub server_next_box : (state : server.State) → AsLarge (requests.after_next state).core.inbox state.core.inbox
server_next_box state = next_server state state.core.failed

-- a bound on what an inbox can hold still holds
pub holds : (bytes tokens : ℕ) (a b : Arrived) → AsLarge a b → HoldsInbox bytes tokens b → HoldsInbox bytes tokens a
holds bytes tokens a b l h = record { bytes_fit = rw l.bytes h.bytes_fit; tokens_fit = rw l.tokens h.tokens_fit }

pub announced_box : (before now : server.State) (result : Result Announced SendError)
    → IfOk result (λ told. (before.core.failed ≡ false) × Fitting before told.count
    × (now ≡ after_announce before told.count))
    → IfErr result (λ why. (why ≡ refusals.Failed) × (before.core.failed ≡ true) × (now ≡ before))
    → AsLarge now.core.inbox before.core.inbox
announced_box before now (Ok told) ok err = subst (λ (s : server.State). AsLarge s.core.inbox before.core.inbox)
    (sym ok.2) (announce_box before told.count)
announced_box before now (Err why) ok err = subst (λ (s : server.State). AsLarge s.core.inbox before.core.inbox)
    (sym err.2) (same_size before.core.inbox)

left_box : {R : Type 0} (before after : server.State) (result : Result (Option R) NextError)
    → AsLarge after.core.inbox before.core.inbox → AsLarge (unless_memory before after result).core.inbox
    before.core.inbox
left_box before after (Ok x) k = k
left_box before after (Err (errors.Fault what offset)) k = k
left_box before after (Err errors.Failed) k = k
left_box before after (Err errors.Memory) k = same_size before.core.inbox
left_box before after (Err errors.OutFull) k = k

pub read_leaves_box : {R : Type 0} (before now : server.State) (result : Result (Option R) NextError)
    → now ≡ unless_memory before (requests.after_next before) result → AsLarge now.core.inbox before.core.inbox
read_leaves_box before now result h =
    subst (λ (s : server.State). AsLarge s.core.inbox before.core.inbox) (sym h)
    (left_box before (requests.after_next before) result (server_next_box before))
