-- Carrying from one end to the other.
use Rattle.std.proofs.Common.{◌≡◌, ℕ, false, List, [], map, take, min, refl, sym, subst}
use Rattle.std.proofs.Common.{drop, length, length-append, arith, ◌-◌, ◌≤◌, ◌++◌, ◌∙◌, ap, Bool, true}
use Rattle.std.specs.Prelude.{nat_le}
use Rattle.std.proofs.lemmas.Bool.Decides.{nat_tests}
use Rattle.std.proofs.lemmas.List.{take-append-drop, length-take}
use Rattle.wl_message.specs.declared.amounts.Amounts.{Amounts}
use Rattle.wl_message.specs.Outgoing.{QueuedMessage as Sent, Outgoing, goes, after_taking, waiting_bytes}
use Rattle.wl_message.specs.Outgoing.{waiting_tokens, newly_begun, all_tokens}
use Rattle.wl_message.specs.Arrived.{Arrived, with_more, free_bytes, free_tokens}
use Rattle.wl_message.proofs.WhatGoes.{begun_front, goes_goes}
use Rattle.wl_connection.specs.Core.{Core, in_room, no_room, feeds}
use Rattle.theory_connection.specs.Meant.{Known, Message, Coming, spelled_meant, spelled_coming}
use Rattle.theory_connection.specs.World.{World}
use Rattle.theory_connection.specs.Pair.{PairState, CarryToServer, CarryToClient, CarryOutcome, Carries}
use Rattle.theory_connection.specs.Pair.{moved, no_memory, carries, carried_bytes, carried_tokens}
use Rattle.theory_connection.specs.Pair.{after_carry_to_server, after_carry_to_client}
use Rattle.theory_connection.specs.Stands.{StandsBy, InFlight}
use Rattle.theory_connection.proofs.Channels.{carried, goes_there, goes_tokens, all_tokens_more}
use Rattle.theory_connection.proofs.Moves.{Moves, goes_on, stays, carrying_to_server, carrying_to_client}
use Rattle.theory_connection.specs.World.{Running, is_over}
use Rattle.theory_connection.proofs.Errors.{before, client_does}

pub flies : (o : Outgoing) (i : Arrived) (ms : List Sent) (b t : ℕ) → InFlight o i ms
    → InFlight (after_taking o (goes o b t).bytes)
    (with_more i (take (goes o b t).bytes (waiting_bytes o)) (take (goes o b t).tokens (waiting_tokens o))) ms
flies o i ms b t f =
    subst (λ (n : ℕ). InFlight (after_taking o (goes o b t).bytes)
    (with_more i (take (goes o b t).bytes (waiting_bytes o)) (take n (waiting_tokens o))) ms)
    (sym (goes_tokens o b t))
    (carried o i ms (goes o b t).bytes f (goes_there o b t))

-- after a carry to the server the pair represents its world
pub to_server_stands : (p : PairState) (w : World) (asked : List (Message Known)) (told : List (Coming Known))
    (most : ℕ) → StandsBy p w asked told
    → StandsBy (after_carry_to_server p (carries p.client.core p.server.core most)) w asked told
to_server_stands p w asked told most s = record {
  terms = s.terms;
  client = s.client;
  server = s.server;
  plain = s.plain;
  none_made = s.none_made;
  requests = record {
    in_world = s.requests.in_world;
    in_boxes = flies p.client.core.outbox p.server.core.inbox (map spelled_meant asked ++ [])
        (min most (in_room p.server.core).bytes) (in_room p.server.core).tokens s.requests.in_boxes;
    fit =
        s.requests.fit;
  };
  behind = s.behind;
  events = s.events;
  error = s.error;
  asks_counted = s.asks_counted;
  deletes_follow = s.deletes_follow;
  meet = s.meet;
  globals = s.globals;
  registries = s.registries;
}

-- after a carry to the client the pair represents its world
pub to_client_stands : (p : PairState) (w : World) (asked : List (Message Known)) (told : List (Coming Known))
    (most : ℕ) → StandsBy p w asked told
    → StandsBy (after_carry_to_client p (carries p.server.core p.client.core most)) w asked told
to_client_stands p w asked told most s = record {
  terms = s.terms;
  client = s.client;
  server = s.server;
  plain = s.plain;
  none_made = s.none_made;
  requests = s.requests;
  behind = s.behind;
  error = s.error;
  events = record {
    in_world = s.events.in_world;
    in_boxes = flies p.server.core.outbox p.client.core.inbox (map spelled_coming told ++ s.behind)
        (min most (in_room p.client.core).bytes) (in_room p.client.core).tokens s.events.in_boxes;
    fit = s.events.fit;
  };
  asks_counted = s.asks_counted;
  deletes_follow = s.deletes_follow;
  meet = s.meet;
  globals = s.globals;
  registries = s.registries;
}

-- a carry to the server keeps a pair representing its world, while no error was posted
pub carry_to_server_keeps : (p : PairState) (w : World) (asked : List (Message Known)) (told : List (Coming Known))
    → StandsBy p w asked told → w.stage ≡ Running → (most : ℕ) (reply : CarryOutcome) (p' : PairState)
    → Carries (carries p.client.core p.server.core most) p
    (after_carry_to_server p (carries p.client.core p.server.core most)) reply p'
    → Moves p w asked told (CarryToServer most) (CarryToServer reply) p'
carry_to_server_keeps p w asked told s z most reply p' moved =
    record {
      world = w;
      answers = before z moved refl;
      outcome = goes_on asked told (to_server_stands p w asked told most s) (carrying_to_server most);
    }
carry_to_server_keeps p w asked told s z most reply p' (no_memory h) =
    record { world = w; answers = before z (no_memory h) refl; outcome = goes_on asked told s stays }

-- a carry to the client keeps a pair representing its world
pub carry_to_client_keeps : (p : PairState) (w : World) (asked : List (Message Known)) (told : List (Coming Known))
    → StandsBy p w asked told → is_over w.stage ≡ false → (most : ℕ) (reply : CarryOutcome) (p' : PairState)
    → Carries (carries p.server.core p.client.core most) p
    (after_carry_to_client p (carries p.server.core p.client.core most)) reply p'
    → Moves p w asked told (CarryToClient most) (CarryToClient reply) p'
carry_to_client_keeps p w asked told s z most reply p' moved =
    record {
      world = w;
      answers = client_does z tt moved refl;
      outcome = goes_on asked told (to_client_stands p w asked told most s) (carrying_to_client most);
    }
carry_to_client_keeps p w asked told s z most reply p' (no_memory h) =
    record { world = w; answers = client_does z tt (no_memory h) refl; outcome = goes_on asked told s stays }

-- ---- everything that is carried is taken in

pub record Fitting (from to : Core) (most : ℕ) : Type 0 where
  pub bytes : (carries from to most).bytes ≤ min most (in_room to).bytes
  pub tokens : (carries from to most).tokens ≤ (in_room to).tokens
  pub bytes_there : length (carried_bytes from (carries from to most)) ≡ (carries from to most).bytes
  pub tokens_there : length (carried_tokens from (carries from to most)) ≡ (carries from to most).tokens

-- no more tokens are begun than wait
pub begun_few : (o : Outgoing) (n : ℕ) → length (all_tokens (newly_begun o n)) ≤ length (waiting_tokens o)
begun_few o n =
    let m = begun_front (n - length o.left) o.messages in
    let e : o.messages ≡ newly_begun o n ++ drop (length (newly_begun o n)) o.messages =
    sym (take-append-drop (length (newly_begun o n)) o.messages)
    ∙ ap (λ (x : List Sent). x ++ drop (length (newly_begun o n)) o.messages) (sym m) in
    let k : all_tokens o.messages ≡ all_tokens (newly_begun o n)
    ++ all_tokens (drop (length (newly_begun o n)) o.messages) =
    ap all_tokens e ∙ all_tokens_more (newly_begun o n) (drop (length (newly_begun o n)) o.messages) in
    let l = ap length k in omega (
      arith,
      l,
      length-append (all_tokens (newly_begun o n))
          (all_tokens (drop (length (newly_begun o n)) o.messages)),
    )

-- what is carried was waiting, and fits into the room
pub carry_fits : (from to : Core) (most : ℕ) → Fitting from to most
carry_fits from to most =
    let g = goes_goes from.outbox (min most (in_room to).bytes) (in_room to).tokens in
    let t = carries from to most in
    let few = begun_few from.outbox t.bytes in
    record {
      bytes = g.may.within;
      tokens = let e = g.with_tokens in let k = g.may.tokens_within in omega (arith, e, k);
      bytes_there = let h = g.may.there in omega (arith, h, length-take t.bytes (waiting_bytes from.outbox));
      tokens_there = let e = g.with_tokens in omega (arith, e, few, length-take t.tokens (waiting_tokens from.outbox));
    }

taken_whole : (to : Core) (b : Bool) (bytes tokens : List ℕ) (nb nt : ℕ) → to.failed ≡ b → length bytes ≡ nb
    → length tokens ≡ nt → nb ≤ (in_room to).bytes → nt ≤ (in_room to).tokens
    → feeds to bytes tokens ≡ record { bytes = nb; tokens = nt }
taken_whole to true bytes tokens nb nt e p q h k =
    let room : in_room to ≡ no_room = rw e refl in
    let x : nb ≡ 0 = let l = ap (λ (r : Amounts). r.bytes) room in omega (arith, h, l) in
    let y : nt ≡ 0 = let l = ap (λ (r : Amounts). r.tokens) room in omega (arith, k, l) in
    rw (e, x, y) refl
taken_whole to false bytes tokens nb nt e p q h k =
    let room : in_room to ≡ record { bytes = free_bytes to.inbox; tokens = free_tokens to.inbox } = rw e refl in
    let x : nb ≤ free_bytes to.inbox = let l = ap (λ (r : Amounts). r.bytes) room in omega (arith, h, l) in
    let y : nt ≤ free_tokens to.inbox = let l = ap (λ (r : Amounts). r.tokens) room in omega (arith, k, l) in
    let all : nat_le (length tokens) (free_tokens to.inbox) ≡ true = grind (arith, nat_tests, q, y) in
    let few : min (length bytes) (free_bytes to.inbox) ≡ nb = omega (arith, p, x) in
    let some : min (length tokens) (free_tokens to.inbox) ≡ nt = omega (arith, q, y) in
    rw (e, all, few, some) refl

-- everything that is carried is taken in
pub carry_whole : (from to : Core) (most : ℕ) → feeds to (carried_bytes from (carries from to most))
    (carried_tokens from (carries from to most)) ≡ carries from to most
carry_whole from to most =
    let f = carry_fits from to most in
    taken_whole to to.failed (carried_bytes from (carries from to most)) (carried_tokens from (carries from to most))
    (carries from to most).bytes (carries from to most).tokens refl f.bytes_there f.tokens_there
    (let b = f.bytes in omega (arith, b)) f.tokens
