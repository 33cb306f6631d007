-- After an error was posted, no move changes that what is recorded is lawful to its end.
use Rattle.std.proofs.Common.{◌≡◌, ℕ, Bool, true, List, ◌++◌, length, sym, ap, subst, ◌∙◌}
use Rattle.std.proofs.lemmas.List.{append-nil, append_assoc}
use Rattle.std.specs.declared.option.Option.{Option}
use Rattle.std.specs.declared.result.Result.{Result}
use Rattle.wl_object_map.specs.declared.object.Object.{Object}
use Rattle.wl_objects.specs.declared.error.NextError.{NextError}
use Rattle.wl_objects.specs.declared.error.SendError.{SendError}
use Rattle.wl_message.specs.declared.amounts.Amounts.{Amounts}
use Rattle.wl_message.specs.Outgoing.{goes, newly_begun, all_tokens}
use Rattle.wl_connection.specs.Core.{no_room}
use Rattle.wl_client.specs.State as client
use Rattle.wl_recording.specs.declared.piece.Direction.TheVariants.{ToServer, ToClient}
use Rattle.wl_recording.specs.Piece.{Piece, passed}
use Rattle.wl_check.specs.Session.{IsLawful, session_of}
use Rattle.theory_connection.specs.World.{World, has_error}
use Rattle.theory_connection.specs.Pair.{PairState, Move, Reply, ClientSend, ClientBind, ServerSend}
use Rattle.theory_connection.specs.Pair.{ServerDrop, PostError, AddGlobal, Withdraw, Announce}
use Rattle.theory_connection.specs.Pair.{CarryToServer, CarryToClient, ClientNext, ServerNext, Does}
use Rattle.theory_connection.specs.Pair.{CarryOutcome, Writes, Nexts, Carries, with_client, carries}
use Rattle.theory_connection.specs.Pair.{accepted, refused, no_memory, no_memory_to_open, answered, moved}
use Rattle.theory_connection.specs.Pair.{after_carry_to_server, after_carry_to_client, carried_bytes}
use Rattle.theory_connection.proofs.Channels.{goes_there, goes_tokens}
use Rattle.theory_connection.proofs.Refused.{Refused, carries_none, server_send_refused, server_drop_refused}
use Rattle.theory_connection.proofs.Refused.{post_error_refused, add_global_refused, withdraw_refused}
use Rattle.theory_connection.proofs.Refused.{announce_refused, server_next_refused}
use Rattle.theory_recording.specs.Linked.{RecordsToEnd, piece, pair_limit}

by_write : (answer : Result (Option Object) SendError) (opens : Bool) (p : PairState) (c : client.State)
    (reply : Result (Option Object) SendError) (p' : PairState) → RecordsToEnd p
    → Writes answer opens p (with_client p c) reply p' → RecordsToEnd p'
by_write answer opens p c reply p' r (accepted h) = record { failed = r.failed; lawful = r.lawful }
by_write answer opens p c reply p' r (refused h) = r
by_write answer opens p c reply p' r (no_memory h o) = r

by_next : {R : Type 0} (needs : R → Bool) (opens : Bool) (answer : Result (Option R) NextError) (p : PairState)
    (c : client.State) (reply : Result (Option R) NextError) (p' : PairState) → RecordsToEnd p
    → Nexts needs opens answer p (with_client p c) reply p' → RecordsToEnd p'
by_next needs opens answer p c reply p' r answered = record { failed = r.failed; lawful = r.lawful }
by_next needs opens answer p c reply p' r (no_memory h o) = r
by_next needs opens answer p c reply p' r (no_memory_to_open h o) = r

by_call : {p p' : PairState} {w : World} {move : Move} {reply : Reply} → RecordsToEnd p → Refused p w move reply p'
    → RecordsToEnd p'
by_call r e = subst RecordsToEnd (sym e.stays_so) r

-- nothing goes to the server
to_server : (p : PairState) (taken : Amounts) → taken ≡ no_room → (reply : CarryOutcome) (p' : PairState)
    → RecordsToEnd p → Carries taken p (after_carry_to_server p taken) reply p' → RecordsToEnd p'
to_server p taken e reply p' r (no_memory h) = r
to_server p taken e reply p' r moved =
    let same : p.recording ++ passed ToServer (carried_bytes p.client.core taken) taken.tokens ≡ p.recording =
    ap (λ (t : Amounts). p.recording ++ passed ToServer (carried_bytes p.client.core t) t.tokens) e
    ∙ append-nil p.recording in
    record {
      failed = r.failed;
      lawful = λ more g. subst (λ (l : List Piece). IsLawful p.server.core.tables
          (session_of (pair_limit p) (l ++ more))) (sym same) (r.lawful more g);
    }

-- what goes to the client was waiting
to_client : (p : PairState) (most : ℕ) (reply : CarryOutcome) (p' : PairState) → RecordsToEnd p
    → Carries (carries p.server.core p.client.core most) p
    (after_carry_to_client p (carries p.server.core p.client.core most)) reply p' → RecordsToEnd p'
to_client p most reply p' r (no_memory h) = r
to_client p most reply p' r moved =
    let from = p.server.core.outbox in
    let taken = carries p.server.core p.client.core most in
    let bytes = carried_bytes p.server.core taken in
    let there = goes_there from _ _ in
    let tokens : taken.tokens ≡ length (all_tokens (newly_begun from taken.bytes)) = goes_tokens from _ _ in
    record {
      failed = r.failed;
      lawful = λ more g. subst (λ (l : List Piece). IsLawful p.server.core.tables (session_of (pair_limit p) l))
          (sym (append_assoc p.recording (passed ToClient bytes (length (all_tokens (newly_begun from taken.bytes)))) more)
          ∙ ap (λ (n : ℕ). (p.recording ++ passed ToClient bytes n) ++ more) (sym tokens))
          (r.lawful (passed ToClient bytes (length (all_tokens (newly_begun from taken.bytes))) ++ more)
          (piece taken.bytes there g));
    }

-- after any move, what is recorded is still lawful to its end
pub records_on : (p : PairState) (w : World) → has_error w.stage ≡ true → (move : Move) (reply : Reply) (p' : PairState)
    → Does p move reply p' → RecordsToEnd p → RecordsToEnd p'
records_on p w z (ClientSend target opcode given) (ClientSend reply) p' d r = by_write _ _ p _ reply p' r d
records_on p w z (ClientBind target name iface version) (ClientBind reply) p' d r = by_write _ _ p _ reply p' r d
records_on p w z ClientNext (ClientNext reply) p' d r = by_next _ _ _ p _ reply p' r d
records_on p w z (ServerSend target opcode given) (ServerSend reply) p' d r = by_call r (server_send_refused p w r.failed z target opcode given reply p' d)
records_on p w z (ServerDrop object) (ServerDrop reply) p' d r = by_call r (server_drop_refused p w r.failed z object reply p' d)
records_on p w z (PostError object code text) (PostError reply) p' d r = by_call r (post_error_refused p w r.failed z object code text reply p' d)
records_on p w z (AddGlobal iface version) (AddGlobal reply) p' d r = by_call r (add_global_refused p w r.failed z iface version reply p' d)
records_on p w z (Withdraw name) (Withdraw reply) p' d r = by_call r (withdraw_refused p w r.failed z name reply p' d)
records_on p w z Announce (Announce reply) p' d r = by_call r (announce_refused p w r.failed z reply p' d)
records_on p w z ServerNext (ServerNext reply) p' d r = by_call r (server_next_refused p w r.failed z reply p' d)
records_on p w z (CarryToServer most) (CarryToServer reply) p' d r =
    to_server p _ (carries_none p.client.core p.server.core most r.failed) reply p' r d
records_on p w z (CarryToClient most) (CarryToClient reply) p' d r = to_client p most reply p' r d
records_on p w z _ _ p' d r = absurd d
