-- A client and a server joined directly, what can be done with them, and what each call returns and
-- leaves.
use Rattle.std.specs.Prelude.{◌≡◌, ℕ, ◌<◌, Bool, true, false, min, List, [], ◌++◌, length, take}
use Rattle.std.specs.Prelude.{Option, Some, None, IsOk}
use Rattle.std.specs.declared.result.Result.{Result}
use Rattle.std.specs.declared.result.Result.TheVariants.{Ok, Err}
use Rattle.wl_wire.specs.declared.kind.Iface.{Iface}
use Rattle.wl_sigs.specs.Side.TheVariants.{Request, Event}
use Rattle.wl_sigs.specs.Tables.{Interface}
use Rattle.wl_message.specs.declared.amounts.Amounts.{Amounts}
use Rattle.wl_message.specs.declared.amounts.Sizes.{Sizes}
use Rattle.wl_message.specs.Outgoing.{goes, waiting_bytes, waiting_tokens}
use Rattle.wl_object_map.specs.declared.object.Object.{Object}
use Rattle.wl_objects.specs.declared.error.SendError.{SendError}
use Rattle.wl_objects.specs.declared.error.SendError.TheVariants as refusals
use Rattle.wl_objects.specs.declared.error.NextError.{NextError}
use Rattle.wl_objects.specs.declared.error.NextError.TheVariants as errors
use Rattle.wl_objects.specs.Writing.{Given}
use Rattle.wl_objects.specs.Messages.{checked}
use Rattle.wl_connection.specs.Core.{Core, in_room, with_arrived, with_gone, is_drained}
use Rattle.wl_connection.specs.Receiving.{found}
use Rattle.wl_connection.specs.Sending.{send_answer, after_send, opens_object}
use Rattle.wl_client.specs.State as client
use Rattle.wl_client.specs.Reports as events
use Rattle.wl_client.specs.Calls.{bind_answer, after_bind}
use Rattle.wl_server.specs.declared.globals.GlobalError.{GlobalError}
use Rattle.wl_server.specs.declared.globals.GlobalError.TheVariants as global_errors
use Rattle.wl_server.specs.State as server
use Rattle.wl_server.specs.Requests as requests
use Rattle.wl_server.specs.Calls.{drop_refusal, after_drop, error_refusal, after_error, add_refusal}
use Rattle.wl_server.specs.Calls.{withdraw_refusal, with_global, next_name, after_withdraw}
use Rattle.wl_server.specs.Announcing.{Fitting, after_announce}
use Rattle.wl_recording.specs.declared.piece.Direction.TheVariants.{ToServer, ToClient}
use Rattle.wl_recording.specs.Piece.{Piece, passed}

pub record PairState : Type 0 where
  pub client : client.State
  pub server : server.State
  -- what was carried, piece by piece, and how many pieces there were when the first error was
  -- posted
  pub recording : List Piece
  pub ended_at : Option ℕ

-- both ends when they are new
abbrev pub new_pair : List Interface → Sizes → Sizes → PairState
new_pair tables client_sizes server_sizes = record {
  client = client.new_state tables client_sizes;
  server = server.new_state tables server_sizes;
  recording = [];
  ended_at = None;
}

-- what can be done with a pair
pub data Move : Type 0 where
  ClientSend : Object → (opcode : ℕ) → List Given → Move
  ClientBind : Object → (name : ℕ) → (iface : List ℕ) → (version : ℕ) → Move
  ServerSend : Object → (opcode : ℕ) → List Given → Move
  ServerDrop : Object → Move
  PostError : Object → (code : ℕ) → (text : List ℕ) → Move
  AddGlobal : Iface → (version : ℕ) → Move
  Withdraw : (name : ℕ) → Move
  Announce : Move
  CarryToServer : (most : ℕ) → Move
  CarryToClient : (most : ℕ) → Move
  ClientNext : Move
  ServerNext : Move

-- the reply to a carry: how much it moved, or that there is no memory to record it
pub data CarryOutcome : Type 0 where
  Moved : Amounts → CarryOutcome
  Memory : CarryOutcome

-- the reply to a move
pub data Reply : Type 0 where
  ClientSend : Result (Option Object) SendError → Reply
  ClientBind : Result (Option Object) SendError → Reply
  ServerSend : Result (Option Object) SendError → Reply
  ServerDrop : Result (Unit {0}) SendError → Reply
  PostError : Result (Unit {0}) SendError → Reply
  AddGlobal : Result ℕ GlobalError → Reply
  Withdraw : Result (Unit {0}) GlobalError → Reply
  Announce : Result ℕ SendError → Reply
  CarryToServer : CarryOutcome → Reply
  CarryToClient : CarryOutcome → Reply
  ClientNext : Result (Option events.Report) NextError → Reply
  ServerNext : Result (Option requests.Report) NextError → Reply

-- ---- the pair with one end changed

abbrev pub with_client : PairState → client.State → PairState
with_client p c = record p { client = c }

abbrev pub with_server : PairState → server.State → PairState
with_server p s = record p { server = s }

abbrev pub with_client_core : PairState → Core → PairState
with_client_core p c = with_client p (client.with_core p.client c)

abbrev pub with_server_core : PairState → Core → PairState
with_server_core p c = with_server p (server.with_core p.server c)

-- ---- a carry

-- What goes from one end to the other: at most this number of bytes, and at most as much as the
-- other's inbox has room for.
abbrev pub carries : Core → Core → ℕ → Amounts
carries from to most = goes from.outbox (min most (in_room to).bytes) (in_room to).tokens

abbrev pub carried_bytes : Core → Amounts → List ℕ
carried_bytes from taken = take taken.bytes (waiting_bytes from.outbox)

abbrev pub carried_tokens : Core → Amounts → List ℕ
carried_tokens from taken = take taken.tokens (waiting_tokens from.outbox)

-- The pair after a carry: what was carried is recorded, and nothing else.
abbrev pub after_carry_to_server : PairState → Amounts → PairState
after_carry_to_server p taken = record p {
  client = client.with_core p.client (with_gone p.client.core taken.bytes);
  server = server.with_core p.server
      (with_arrived p.server.core (carried_bytes p.client.core taken)
      (carried_tokens p.client.core taken));
  recording = p.recording ++ passed ToServer (carried_bytes p.client.core taken) taken.tokens;
}

abbrev pub after_carry_to_client : PairState → Amounts → PairState
after_carry_to_client p taken = record p {
  client = client.with_core p.client
      (with_arrived p.client.core (carried_bytes p.server.core taken)
      (carried_tokens p.server.core taken));
  server = server.with_core p.server (with_gone p.server.core taken.bytes);
  recording = p.recording ++ passed ToClient (carried_bytes p.server.core taken) taken.tokens;
}

-- ---- an error

-- the first error sets the mark, and no later one changes it
abbrev pub ended_mark : Option ℕ → ℕ → Option ℕ
ended_mark None count = Some count
ended_mark (Some first) count = Some first

abbrev pub after_post : PairState → Object → ℕ → List ℕ → PairState
after_post p object code text =
    record (with_server_core p (after_error p.server.core object code text)) {
      ended_at = ended_mark p.ended_at (length p.recording);
    }

-- ---- what a call returns and leaves

-- A write is accepted or refused as the answer says. If it would be accepted and opens an object,
-- it may instead fail for lack of memory. Only acceptance changes the pair.
pub data Writes (answer : Result (Option Object) SendError) (opens : Bool)
    (before after : PairState)
    : Result (Option Object) SendError → PairState → Type 0 where
  accepted : {new : Option Object} → answer ≡ Ok new
      → Writes answer opens before after (Ok new) after
  refused : {why : SendError} → answer ≡ Err why → Writes answer opens before after (Err why) before
  no_memory : {new : Option Object} → answer ≡ Ok new → opens ≡ true
      → Writes answer opens before after (Err refusals.Memory) before

-- A call that returns no value is accepted, or refused as this says.
pub data Calls {E : Type 0} (refusal : Option E) (before after : PairState)
    : Result (Unit {0}) E → PairState → Type 0 where
  done : refusal ≡ None → Calls refusal before after (Ok tt) after
  refused : {why : E} → refusal ≡ Some why → Calls refusal before after (Err why) before

pub data Adds (refusal : Option GlobalError) (name : ℕ) (before after : PairState)
    : Result ℕ GlobalError → PairState → Type 0 where
  added : refusal ≡ None → Adds refusal name before after (Ok name) after
  refused : {why : GlobalError}
      → refusal ≡ Some why → Adds refusal name before after (Err why) before
  no_memory : refusal ≡ None → Adds refusal name before after (Err global_errors.Memory) before

-- As many of the owed events are written, in order, as fit.
pub data Announces (p : PairState) : Result ℕ SendError → PairState → Type 0 where
  announced : {count : ℕ}
      → p.server.core.failed ≡ false → Fitting p.server count
      → Announces p (Ok count) (with_server p (after_announce p.server count))
  refused : p.server.core.failed ≡ true → Announces p (Err refusals.Failed) p

-- A read returns and leaves what the answer says. It may instead fail for lack of memory, and then
-- nothing changes: memory for a report that needs some, or, at a client, for an object that the
-- message makes at an id that was never used.
pub data Nexts {R : Type 0} (needs : R → Bool) (opens : Bool)
    (answer : Result (Option R) NextError) (before after : PairState)
    : Result (Option R) NextError → PairState → Type 0 where
  answered : Nexts needs opens answer before after answer after
  no_memory : {report : R} → answer ≡ Ok (Some report) → needs report ≡ true
      → Nexts needs opens answer before after (Err errors.Memory) before
  no_memory_to_open : IsOk answer → opens ≡ true
      → Nexts needs opens answer before after (Err errors.Memory) before

-- A carry moves this much. If it would move something, it may instead fail for lack of memory to
-- record that, and then nothing changes.
pub data Carries (taken : Amounts) (before after : PairState) : CarryOutcome → PairState
    → Type 0 where
  moved : Carries taken before after (Moved taken) after
  no_memory : 0 < taken.bytes → Carries taken before after Memory before

-- What both ends return and leave at a move.
abbrev pub Does : PairState → Move → Reply → PairState → Type 0
Does p (ClientSend target opcode given) (ClientSend reply) p' =
    Writes (send_answer p.client.core Request target opcode given)
    (opens_object (checked p.client.core.outbox.limit.bytes p.client.core.tables Request
    p.client.core.view target opcode given))
    p (with_client_core p (after_send p.client.core Request target opcode given)) reply p'
Does p (ClientBind target name iface version) (ClientBind reply) p' =
    Writes (bind_answer p.client target name iface version) true p
    (with_client p (after_bind p.client target name iface version)) reply p'
Does p (ServerSend target opcode given) (ServerSend reply) p' =
    Writes (send_answer p.server.core Event target opcode given)
    (opens_object (checked p.server.core.outbox.limit.bytes p.server.core.tables Event
    p.server.core.view target opcode given))
    p (with_server_core p (after_send p.server.core Event target opcode given)) reply p'
Does p (ServerDrop object) (ServerDrop reply) p' =
    Calls (drop_refusal p.server.core object) p
    (with_server_core p (after_drop p.server.core object)) reply p'
Does p (PostError object code text) (PostError reply) p' =
    Calls (error_refusal p.server.core object text) p (after_post p object code text) reply p'
Does p (AddGlobal iface version) (AddGlobal reply) p' =
    Adds (add_refusal p.server iface version) (next_name p.server) p
    (with_server p (with_global p.server iface version)) reply p'
Does p (Withdraw name) (Withdraw reply) p' =
    Calls (withdraw_refusal p.server name) p (with_server p (after_withdraw p.server name)) reply p'
Does p Announce (Announce reply) p' = Announces p reply p'
Does p (CarryToServer most) (CarryToServer reply) p' =
    Carries (carries p.client.core p.server.core most) p
    (after_carry_to_server p (carries p.client.core p.server.core most)) reply p'
Does p (CarryToClient most) (CarryToClient reply) p' =
    Carries (carries p.server.core p.client.core most) p
    (after_carry_to_client p (carries p.server.core p.client.core most)) reply p'
Does p ClientNext (ClientNext reply) p' =
    Nexts events.needs_memory
    (events.event_opens p.client.core (found p.client.core Event))
    (events.next_answer p.client) p
    (with_client p (events.after_next p.client)) reply p'
Does p ServerNext (ServerNext reply) p' =
    Nexts requests.needs_memory false (requests.next_answer p.server) p
    (with_server p (requests.after_next p.server)) reply p'
Does p _ _ p' = ⊥

-- nothing waits in any of the four queues
abbrev pub drained : PairState → Type 0
drained p = (is_drained p.client.core ≡ true) × (is_drained p.server.core ≡ true)
