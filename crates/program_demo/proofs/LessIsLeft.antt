-- After a carry that moves bytes, fewer bytes wait to be carried; after a read that finds a
-- message, fewer wait to be read.
use Rattle.std.proofs.Common.{◌≡◌, ℕ, Bool, ◌+◌, ◌<◌, ◌≤◌, true, false, List, [], ◌∷◌, ◌++◌, length}
use Rattle.std.proofs.Common.{length-append, take, refl, sym, ◌∙◌, ap, arith}
use Rattle.std.proofs.lemmas.List.{length-take}
use Rattle.std.proofs.lemmas.Bool.{ltb-true}
use Rattle.std.specs.declared.option.Option.{Option}
use Rattle.std.specs.declared.option.Option.TheVariants.{Some, None}
use Rattle.std.specs.declared.result.Result.{Result}
use Rattle.std.specs.declared.result.Result.TheVariants.{Ok, Err}
use Rattle.wl_message.specs.declared.amounts.Amounts.{Amounts}
use Rattle.wl_message.specs.Outgoing.{QueuedMessage, Outgoing, all_bytes, waiting_bytes, newly_begun, after_taking}
use Rattle.wl_objects.specs.declared.error.NextError.{NextError}
use Rattle.wl_connection.proofs.Roles.{fewer_wait}
use Rattle.wl_client.specs.Reports as events
use Rattle.wl_client.proofs.ReadingStays as client
use Rattle.wl_server.specs.Requests as requests
use Rattle.wl_server.proofs.ReadingStays as server
use Rattle.theory_connection.specs.Pair.{PairState, Move, Reply, ClientSend, ClientBind, ServerSend}
use Rattle.theory_connection.specs.Pair.{ServerDrop, PostError, AddGlobal, Withdraw, Announce}
use Rattle.theory_connection.specs.Pair.{CarryToServer, CarryToClient, ClientNext, ServerNext}
use Rattle.theory_connection.specs.Pair.{CarryOutcome, Does, Carries, moved, no_memory, Nexts, answered, no_memory_to_open}
use Rattle.theory_connection.specs.Pair.{carries, after_carry_to_server, after_carry_to_client}
use Rattle.theory_connection.specs.Pair.{with_client, with_server}
use Rattle.theory_connection.proofs.Channels.{gone, goes_there}
use Rattle.program_demo.specs.Playing.{moves_bytes, finds, does_something}

all_bytes_len : (xs ys : List QueuedMessage) → length (all_bytes (xs ++ ys))
    ≡ length (all_bytes xs) + length (all_bytes ys)
all_bytes_len [] ys = omega arith
all_bytes_len (x ∷ xs) ys = omega (
  arith,
  all_bytes_len xs ys,
  length-append x.bytes
      (all_bytes (xs ++ ys)),
  length-append x.bytes (all_bytes xs),
)

-- taking bytes leaves fewer
fewer_left : (o : Outgoing) (n : ℕ) → n ≤ length (waiting_bytes o) → 0 < n
    → length (waiting_bytes (after_taking o n)) < length (waiting_bytes o)
fewer_left o n there some =
    let g = gone o n there in
    let b = newly_begun o n in
    let after = after_taking o n in
    let messages = ap (λ (ms : List QueuedMessage). length (all_bytes ms)) g.messages
    ∙ all_bytes_len b after.messages in
    let bytes = sym (length-append o.left (all_bytes b)) ∙ ap (λ (xs : List ℕ). length xs) g.bytes
    ∙ length-append (take n (waiting_bytes o)) after.left in
    omega (
      arith,
      messages,
      bytes,
      there,
      some,
      length-take n (waiting_bytes o),
      length-append o.left
          (all_bytes o.messages),
      length-append after.left (all_bytes after.messages),
    )

-- what a move works on: the bytes that wait to be carried, or to be read
abbrev pub left_for : Move → PairState → ℕ
left_for (CarryToServer most) p = length (waiting_bytes p.client.core.outbox)
left_for (CarryToClient most) p = length (waiting_bytes p.server.core.outbox)
left_for ServerNext p = length p.server.core.inbox.bytes
left_for ClientNext p = length p.client.core.inbox.bytes
left_for _ p = 0

carried_less : (taken : Amounts) (left : PairState → ℕ) (before after : PairState) {carried : CarryOutcome}
    {last : PairState}
    → Carries taken before after carried last
    → (0 < taken.bytes → left after < left before) → moves_bytes carried ≡ true → left last < left before
carried_less taken left before after moved less busy = less (ltb-true 0 taken.bytes busy)
carried_less taken left before after (no_memory some) less busy = absurd (cc busy)

found_some : {R : Type 0} (answer : Result (Option R) NextError) → finds answer ≡ true
    → (r : R) × (answer ≡ Ok (Some r))
found_some (Ok (Some r)) h = (r, refl)
found_some (Ok None) h = absurd (cc h)
found_some (Err e) h = absurd (cc h)

read_less : {R : Type 0} (needs : R → Bool) (opens : Bool) (answer : Result (Option R) NextError) (left : PairState → ℕ)
    (before after : PairState) {reply : Result (Option R) NextError} {last : PairState}
    → Nexts needs opens answer before after reply last → ((r : R) → answer ≡ Ok (Some r) → left after < left before)
    → finds reply ≡ true → left last < left before
read_less needs opens answer left before after answered less found = let r = found_some answer found in less r.0 r.1
read_less needs opens answer left before after (no_memory is has) less found = absurd (cc found)
read_less needs opens answer left before after (no_memory_to_open is has) less found = absurd (cc found)

-- a move that does something leaves less
pub less_left : (move : Move) (reply : Reply) (p p' : PairState) → Does p move reply p' → does_something reply ≡ true
    → left_for move p' < left_for move p
less_left (CarryToServer most) (CarryToServer carried) p p' does busy =
    let taken = carries p.client.core p.server.core most in
    carried_less taken (left_for (CarryToServer most)) p (after_carry_to_server p taken) does
    (fewer_left p.client.core.outbox taken.bytes (goes_there p.client.core.outbox _ _)) busy
less_left (CarryToServer most) _ p p' does busy = absurd does
less_left (CarryToClient most) (CarryToClient carried) p p' does busy =
    let taken = carries p.server.core p.client.core most in
    carried_less taken (left_for (CarryToClient most)) p (after_carry_to_client p taken) does
    (fewer_left p.server.core.outbox taken.bytes (goes_there p.server.core.outbox _ _)) busy
less_left (CarryToClient most) _ p p' does busy = absurd does
less_left ServerNext (ServerNext answer) p p' does busy =
    read_less requests.needs_memory false (requests.next_answer p.server) (left_for ServerNext) p
    (with_server p (requests.after_next p.server)) does (fewer_wait requests.server_role server.is_role p.server) busy
less_left ServerNext _ p p' does busy = absurd does
less_left ClientNext (ClientNext answer) p p' does busy =
    read_less events.needs_memory _ (events.next_answer p.client) (left_for ClientNext) p
    (with_client p (events.after_next p.client)) does (fewer_wait events.client_role client.is_role p.client) busy
less_left ClientNext _ p p' does busy = absurd does
less_left (ClientSend target opcode given) (ClientSend reply) p p' does busy = absurd (cc busy)
less_left (ClientSend target opcode given) _ p p' does busy = absurd does
less_left (ClientBind target name iface version) (ClientBind reply) p p' does busy = absurd (cc busy)
less_left (ClientBind target name iface version) _ p p' does busy = absurd does
less_left (ServerSend target opcode given) (ServerSend reply) p p' does busy = absurd (cc busy)
less_left (ServerSend target opcode given) _ p p' does busy = absurd does
less_left (ServerDrop object) (ServerDrop reply) p p' does busy = absurd (cc busy)
less_left (ServerDrop object) _ p p' does busy = absurd does
less_left (PostError object code text) (PostError reply) p p' does busy = absurd (cc busy)
less_left (PostError object code text) _ p p' does busy = absurd does
less_left (AddGlobal iface version) (AddGlobal reply) p p' does busy = absurd (cc busy)
less_left (AddGlobal iface version) _ p p' does busy = absurd does
less_left (Withdraw name) (Withdraw reply) p p' does busy = absurd (cc busy)
less_left (Withdraw name) _ p p' does busy = absurd does
less_left Announce (Announce reply) p p' does busy = absurd (cc busy)
less_left Announce _ p p' does busy = absurd does
