-- What a write, a carry and a read do to the messages in flight.
use Rattle.std.proofs.Common.{◌≡◌, ℕ, ◌-◌, ◌≤◌, List, [], ◌∷◌, ◌++◌, length}
use Rattle.std.proofs.Common.{length-append, take, drop, refl, sym, ◌∙◌, ap, subst, arith}
use Rattle.std.proofs.lemmas.List.{append_assoc, append-nil, take-append-le, drop-append-le}
use Rattle.std.proofs.lemmas.List.{take_all, drop_all, take-append-drop, take_at}
use Rattle.wl_message.specs.Cut.{front, More, Bad, Whole, IsMessage}
use Rattle.wl_message.specs.Arrived.{Arrived, with_more, without_first, in_front}
use Rattle.wl_message.specs.Outgoing.{QueuedMessage, Outgoing, all_bytes, all_tokens, waiting_bytes}
use Rattle.wl_message.specs.Outgoing.{waiting_tokens, newly_begun, begun, after_taking, goes}
use Rattle.wl_message.proofs.Cuts.{front_message, whole_stays, bad_stays, front_none}
use Rattle.wl_message.proofs.Fronts.{front_stands}
use Rattle.wl_message.proofs.TakenInStep.{begun_enough}
use Rattle.wl_message.proofs.WhatGoes.{begun_front, going_there}
use Rattle.theory_connection.specs.World.{Each}
use Rattle.theory_connection.specs.Stands.{InFlight}
use Rattle.theory_connection.proofs.WholeInFlight.{each_more, each_rest}

-- the bytes of two lists of messages
pub all_bytes_more : (xs ys : List QueuedMessage) → all_bytes (xs ++ ys) ≡ all_bytes xs ++ all_bytes ys
all_bytes_more [] ys = refl
all_bytes_more (x ∷ xs) ys = rw (all_bytes_more xs ys) (sym (append_assoc x.bytes (all_bytes xs) (all_bytes ys)))

-- the tokens of two lists of messages
pub all_tokens_more : (xs ys : List QueuedMessage) → all_tokens (xs ++ ys) ≡ all_tokens xs ++ all_tokens ys
all_tokens_more [] ys = refl
all_tokens_more (x ∷ xs) ys = rw (all_tokens_more xs ys) (sym (append_assoc x.tokens (all_tokens xs) (all_tokens ys)))

-- messages are written
pub pushed : (o p : Outgoing) (i : Arrived) (ms more : List QueuedMessage) → InFlight o i ms → p.left ≡ o.left
    → p.messages ≡ o.messages ++ more
    → Each (λ m. IsMessage i.limit.bytes m.bytes) more → InFlight p i (ms ++ more)
pushed o p i ms more f l e w = record {
  begun = f.begun;
  all = ap (λ (x : List QueuedMessage). x ++ more) f.all ∙ append_assoc f.begun o.messages more
      ∙ ap (λ (x : List QueuedMessage). f.begun ++ x) (sym e);
  bytes = ap (λ (x : List ℕ). i.bytes ++ x) l ∙ f.bytes;
  tokens = f.tokens;
  whole = each_more (λ (m : QueuedMessage). IsMessage i.limit.bytes m.bytes) ms more f.whole w;
}

-- what is carried, and what is left
pub record Gone (o : Outgoing) (n : ℕ) : Type 0 where
  pub messages : o.messages ≡ newly_begun o n ++ (after_taking o n).messages
  pub bytes : o.left ++ all_bytes (newly_begun o n) ≡ take n (waiting_bytes o) ++ (after_taking o n).left
  pub tokens : take (length (all_tokens (newly_begun o n))) (waiting_tokens o) ≡ all_tokens (newly_begun o n)

gone_at : (o : Outgoing) (n : ℕ) (b ms rest : List QueuedMessage) → ms ≡ b ++ rest → o.messages ≡ ms
    → n ≤ length (o.left ++ all_bytes b)
    → (o.left ++ all_bytes b ≡ take n (o.left ++ all_bytes ms) ++ drop n (o.left ++ all_bytes b))
    × (take (length (all_tokens b)) (all_tokens ms) ≡ all_tokens b)
gone_at o n b ms rest e f h =
    let whole : o.left ++ all_bytes ms ≡ (o.left ++ all_bytes b) ++ all_bytes rest =
    ap (λ (x : List QueuedMessage). o.left ++ all_bytes x) e ∙ ap (λ (x : List ℕ). o.left ++ x) (all_bytes_more b rest)
    ∙ sym (append_assoc o.left (all_bytes b) (all_bytes rest)) in
    let t : take n (o.left ++ all_bytes ms) ≡ take n (o.left ++ all_bytes b) =
    ap (take n) whole ∙ take-append-le n (o.left ++ all_bytes b) (all_bytes rest) h in (
      sym (take-append-drop n (o.left ++ all_bytes b))
          ∙ ap (λ (x : List ℕ). x ++ drop n (o.left ++ all_bytes b)) (sym t),
      ap (λ (x : List QueuedMessage). take (length (all_tokens b)) (all_tokens x)) e
          ∙ ap (take (length (all_tokens b))) (all_tokens_more b rest)
          ∙ take_at (all_tokens b) (all_tokens rest) (length (all_tokens b)) refl,
    )

-- what is carried if n bytes are carried
pub gone : (o : Outgoing) (n : ℕ) → n ≤ length (waiting_bytes o) → Gone o n
gone o n h =
    let b = newly_begun o n in
    let rest = drop (length b) o.messages in
    let e : o.messages ≡ b ++ rest = sym (take-append-drop (length b) o.messages)
    ∙ ap (λ (x : List QueuedMessage). x ++ rest) (sym (begun_front (n - length o.left) o.messages)) in
    let k : n - length o.left ≤ length (all_bytes o.messages) =
    omega (arith, length-append o.left (all_bytes o.messages)) in
    let r = begun_enough (n - length o.left) o.messages k in
    let g = gone_at o n b o.messages rest e refl (omega (arith, r, length-append o.left (all_bytes b))) in
    record { messages = e; bytes = g.0; tokens = g.1 }

-- bytes and tokens are carried
pub carried : (o : Outgoing) (i : Arrived) (ms : List QueuedMessage) (n : ℕ) → InFlight o i ms
    → n ≤ length (waiting_bytes o)
    → InFlight (after_taking o n) (with_more i (take n (waiting_bytes o))
    (take (length (all_tokens (newly_begun o n))) (waiting_tokens o))) ms
carried o i ms n f h =
    let g = gone o n h in
    record {
      begun = f.begun ++ newly_begun o n;
      all = f.all ∙ ap (λ (l : List QueuedMessage). f.begun ++ l) g.messages
          ∙ sym (append_assoc f.begun (newly_begun o n) (after_taking o n).messages);
      bytes = append_assoc i.bytes (take n (waiting_bytes o)) (after_taking o n).left
          ∙ ap (λ (l : List ℕ). i.bytes ++ l) (sym g.bytes)
          ∙ sym (append_assoc i.bytes o.left (all_bytes (newly_begun o n)))
          ∙ ap (λ (l : List ℕ). l ++ all_bytes (newly_begun o n)) f.bytes
          ∙ sym (all_bytes_more f.begun (newly_begun o n));
      tokens = ap (λ (l : List ℕ). i.tokens ++ l) g.tokens
          ∙ ap (λ (l : List ℕ). l ++ all_tokens (newly_begun o n)) f.tokens
          ∙ sym (all_tokens_more f.begun (newly_begun o n));
      whole = f.whole;
    }

-- no more bytes are carried than wait
pub goes_there : (o : Outgoing) (b t : ℕ) → (goes o b t).bytes ≤ length (waiting_bytes o)
unfolding goes
goes_there o b t = let g = going_there (b - length o.left) t o.messages
    in omega (arith, g, length-append o.left (all_bytes o.messages))

-- the tokens that are carried are those of the messages begun
pub goes_tokens : (o : Outgoing) (b t : ℕ) → (goes o b t).tokens
    ≡ length (all_tokens (newly_begun o (goes o b t).bytes))
unfolding goes
goes_tokens o b t = refl

-- what a read finds, and what is in flight after it
pub record Pops (o : Outgoing) (i : Arrived) (ms : List QueuedMessage) (n : ℕ) : Type 0 where
  pub first : QueuedMessage
  pub rest : List QueuedMessage
  pub is : ms ≡ first ∷ rest
  pub size : n ≡ length first.bytes
  pub bytes : take n i.bytes ≡ first.bytes
  pub enough : length first.tokens ≤ length i.tokens
  pub more : List ℕ
  pub tokens : i.tokens ≡ first.tokens ++ more
  pub stay : InFlight o (without_first i n (length first.tokens)) rest

split : (xs ys ms zs : List ℕ) (n : ℕ) → xs ++ ys ≡ ms ++ zs → n ≡ length ms → n ≤ length xs
    → (take n xs ≡ ms) × (drop n xs ++ ys ≡ zs)
split xs ys ms zs n e h l =
    let m : n ≤ length ms = omega arith in (
      sym (take-append-le n xs ys l) ∙ ap (take n) e ∙ take-append-le n ms zs m ∙ take_all n ms (omega arith),
      sym (drop-append-le n xs ys l) ∙ ap (drop n) e ∙ drop-append-le n ms zs m
          ∙ ap (λ k. k ++ zs) (drop_all n ms (omega arith)),
    )

-- the first part of an empty list is empty
pub front_nil : (xs ys : List ℕ) → xs ++ ys ≡ [] → xs ≡ []
front_nil [] ys h = refl
front_nil (x ∷ xs) ys h = cc

pops_at : (o : Outgoing) (i : Arrived) (ms : List QueuedMessage) (n : ℕ) (f : InFlight o i ms) (bs : List QueuedMessage)
    → f.begun ≡ bs → in_front i ≡ Whole n
    → Pops o i ms n
pops_at o i ms n f [] e h =
    let z = front_nil i.bytes o.left (f.bytes ∙ ap all_bytes e) in
    let w : in_front i ≡ More = ap (front i.limit.bytes) z ∙ front_none i.limit.bytes in
    absurd (cc (w, h))
pops_at o i ms n f (b ∷ bs) e h =
    let is : ms ≡ b ∷ (bs ++ o.messages) = f.all ∙ ap (λ l. l ++ o.messages) e in
    let eq : i.bytes ++ o.left ≡ b.bytes ++ all_bytes bs = f.bytes ∙ ap all_bytes e in
    let et : i.tokens ++ [] ≡ b.tokens ++ all_tokens bs = append-nil i.tokens ∙ f.tokens ∙ ap all_tokens e in
    let w = rw is at f.whole in
    let p : front i.limit.bytes (b.bytes ++ all_bytes bs) ≡ Whole (length b.bytes) =
    front_message i.limit.bytes b.bytes (all_bytes bs) w.0 in
    let q : front i.limit.bytes (i.bytes ++ o.left) ≡ Whole n = whole_stays i.limit.bytes i.bytes o.left n h in
    let size : n ≡ length b.bytes = cc (p, q, ap (front i.limit.bytes) eq) in
    let there = (front_stands i.limit.bytes i.bytes n h).there in
    let cutting = split i.bytes o.left b.bytes (all_bytes bs) n eq size there in
    let some : length b.tokens ≤ length i.tokens = omega (arith, simp length-append at (ap length et)) in
    let taking = split i.tokens [] b.tokens (all_tokens bs) (length b.tokens) et refl some in
    record {
      first = b;
      rest = bs ++ o.messages;
      is = is;
      size = size;
      bytes = cutting.0;
      enough = some;
      more = all_tokens bs;
      tokens = sym (append-nil i.tokens) ∙ et;
      stay = record {
        begun = bs;
        all = refl;
        bytes = cutting.1;
        tokens = sym (append-nil (drop (length b.tokens) i.tokens)) ∙ taking.1;
        whole = w.1;
      };
    }

-- a whole message at the front of the inbox is the first in flight
pub pops : (o : Outgoing) (i : Arrived) (ms : List QueuedMessage) (n : ℕ) → InFlight o i ms → in_front i ≡ Whole n
    → Pops o i ms n
pops o i ms n f h = pops_at o i ms n f f.begun refl h

-- no bad header is at the front of the inbox, by the messages begun
never_bad_at : (o : Outgoing) (i : Arrived) (ms bs : List QueuedMessage) (n : ℕ) (f : InFlight o i ms) → f.begun ≡ bs
    → in_front i ≡ Bad n → ⊥
never_bad_at o i ms [] n f e h =
    let z = front_nil i.bytes o.left (f.bytes ∙ ap all_bytes e) in
    let w : in_front i ≡ More = ap (front i.limit.bytes) z ∙ front_none i.limit.bytes in
    cc (w, h)
never_bad_at o i ms (b ∷ bs) n f e h =
    let is : ms ≡ b ∷ (bs ++ o.messages) = f.all ∙ ap (λ l. l ++ o.messages) e in
    let eq : i.bytes ++ o.left ≡ b.bytes ++ all_bytes bs = f.bytes ∙ ap all_bytes e in
    let w = rw is at f.whole in
    let p : front i.limit.bytes (b.bytes ++ all_bytes bs) ≡ Whole (length b.bytes) =
    front_message i.limit.bytes b.bytes (all_bytes bs) w.0 in
    let q : front i.limit.bytes (i.bytes ++ o.left) ≡ Bad n = bad_stays i.limit.bytes i.bytes o.left n h in
    cc (p, q, ap (front i.limit.bytes) eq)

-- no bad header is at the front of the inbox
pub never_bad : (o : Outgoing) (i : Arrived) (ms : List QueuedMessage) (n : ℕ) → InFlight o i ms → in_front i ≡ Bad n
    → ⊥
never_bad o i ms n f h = never_bad_at o i ms f.begun n f refl h

-- with empty queues nothing is in flight, by the messages begun
none_at : (o : Outgoing) (i : Arrived) (ms bs : List QueuedMessage) (f : InFlight o i ms) → f.begun ≡ bs → i.bytes ≡ []
    → o.left ≡ [] → o.messages ≡ [] → ms ≡ []
none_at o i ms [] f e x y z = f.all ∙ ap (λ l. l ++ o.messages) e ∙ z
none_at o i ms (b ∷ bs) f e x y z =
    let is : ms ≡ b ∷ (bs ++ o.messages) = f.all ∙ ap (λ l. l ++ o.messages) e in
    let w = rw is at f.whole in
    let none : i.bytes ++ o.left ≡ [] = rw (x, y) in
    let eq : b.bytes ++ all_bytes bs ≡ [] = sym (f.bytes ∙ ap all_bytes e) ∙ none in
    let v = front_nil b.bytes (all_bytes bs) eq in
    let l : length b.bytes ≡ 0 = ap length v in
    absurd (omega (arith, l, w.0.size.header))

messages_empty : (limit : ℕ) (ms : List QueuedMessage) → Each (λ m. IsMessage limit m.bytes) ms → all_bytes ms ≡ []
    → ms ≡ []
messages_empty limit [] w e = refl
messages_empty limit (m ∷ ms) w e = let v = front_nil m.bytes (all_bytes ms) e in let l : length m.bytes ≡ 0 =
    ap length v in absurd (omega (arith, l, w.0.size.header))

back_nil : (xs ys : List ℕ) → xs ++ ys ≡ [] → ys ≡ []
back_nil [] ys h = h
back_nil (x ∷ xs) ys h = cc

-- with empty queues nothing is in flight
pub none_in_flight : (o : Outgoing) (i : Arrived) (ms : List QueuedMessage) → InFlight o i ms → i.bytes ≡ []
    → waiting_bytes o ≡ [] → ms ≡ []
none_in_flight o i ms f x y =
    let l = front_nil o.left (all_bytes o.messages) y in
    let w = each_rest (λ (m : QueuedMessage). IsMessage i.limit.bytes m.bytes) f.begun o.messages
    (subst (Each (λ m. IsMessage i.limit.bytes m.bytes)) f.all f.whole) in
    none_at o i ms f.begun f refl x l (messages_empty i.limit.bytes o.messages w
    (back_nil o.left (all_bytes o.messages) y))
