-- What an end finds at the front is unchanged if more comes in.
use Rattle.std.proofs.Common.{◌≡◌, ℕ, ◌+◌, ◌*◌, ◌/◌, ◌%◌, ◌<◌, ◌≤◌, ◌⊎◌, inl, inr, Bool, true}
use Rattle.std.proofs.Common.{false, cond, List, [], ◌++◌, length, length-append, take, drop, refl}
use Rattle.std.proofs.Common.{sym, ap, subst, ◌∙◌, arith, ltb}
use Rattle.std.specs.Prelude.{nat_lt, not, replicate}
use Rattle.std.specs.declared.option.Option.{Option}
use Rattle.std.specs.declared.option.Option.TheVariants.{None, Some}
use Rattle.std.specs.declared.result.Result.{Result}
use Rattle.std.specs.declared.result.Result.TheVariants.{Ok, Err}
use Rattle.std.proofs.lemmas.Bool.{le-ltb}
use Rattle.std.proofs.lemmas.Bool.Decides.{nat_tests}
use Rattle.std.proofs.lemmas.List.{append_assoc, append-nil, get_or_append_left, length-drop}
use Rattle.std.proofs.lemmas.List.{length-replicate, length-take-le, take-append-drop}
use Rattle.std.proofs.lemmas.List.{take-append-le, drop-append-le}
use Rattle.wl_wire.specs.declared.header.Header.{Header}
use Rattle.wl_wire.specs.Argument.{Argument}
use Rattle.wl_wire.specs.Word.{number_at}
use Rattle.wl_sigs.specs.Side.{Side}
use Rattle.wl_sigs.specs.Tables.{Interface, MessageSignature, signature_at, descriptors}
use Rattle.wl_message.specs.Arrived.{in_front}
use Rattle.wl_message.specs.Cut.{Front, More, Bad, Whole}
use Rattle.wl_message.specs.InStep.{Need}
use Rattle.wl_message.proofs.Fronts.{Seen, short, long, whole, bad, seen, front_stands}
use Rattle.wl_message.proofs.Cuts.{whole_stays, bad_stays}
use Rattle.wl_object_map.specs.declared.object.Entry.{Entry}
use Rattle.wl_objects.specs.declared.error.Fault.{Fault}
use Rattle.wl_objects.specs.declared.error.Fault.TheVariants as faults
use Rattle.wl_objects.specs.Reading.{Reader, forgiving, arguments_at, reports_of}
use Rattle.wl_objects.specs.Messages.{Received, is_error, received_whole}
use Rattle.wl_objects.specs.Messages.{received_as, received_by, received}
use Rattle.wl_connection.specs.Core.{Core, with_arrived}
use Rattle.wl_connection.specs.Receiving.{reader_in, Found, found_in, found_at, found, header_of, takes}
use Rattle.wl_connection.specs.Receiving.{reported, own_tokens, past_found}
use Rattle.wl_connection.specs.Streams.{FrontNeeds, need_of}
use Rattle.wl_sigs.specs.Rules.{is_empty}
use Rattle.wl_connection.proofs.Descriptors.{fds, HasAll, all_read, reports_stay}

-- ---- the header

number_stays : (xs ys : List ℕ) → 4 ≤ length xs → number_at (xs ++ ys) ≡ number_at xs
number_stays xs ys h =
    let a = get_or_append_left xs ys 0 0 (omega arith) in
    let b = get_or_append_left xs ys 0 1 (omega arith) in
    let c = get_or_append_left xs ys 0 2 (omega arith) in
    let d = get_or_append_left xs ys 0 3 (omega arith) in
    λ i. a i % 256 + b i % 256 * 256 + c i % 256 * 65536 + d i % 256 * 16777216

header_stays : (xs ys : List ℕ) → 8 ≤ length xs → header_of (xs ++ ys) ≡ header_of xs
header_stays xs ys h =
    let o = number_stays xs ys (omega arith) in
    let d : number_at (drop 4 (xs ++ ys)) ≡ number_at (drop 4 xs) =
    ap number_at (drop-append-le 4 xs ys (omega arith))
    ∙ number_stays (drop 4 xs) ys (omega (arith, length-drop 4 xs)) in
    λ i. record { object = o i; size = d i / 65536; opcode = d i % 65536 }

-- ---- the result for a message, depending on how many tokens wait

-- Either a fault however many tokens wait, or a message if its tokens wait and a fault if fewer do.
pub data Meets (answer : ℕ → Result Received Fault) : Type 0 where
  fails : (fault : Fault) → ((k : ℕ) → answer k ≡ Err fault) → Meets answer
  gives : (m : Received) → fds m.values ≡ takes m → ((k : ℕ) → takes m ≤ k → answer k ≡ Ok m)
      → ((k : ℕ) → k < takes m → answer k ≡ Err faults.MissingDescriptor) → Meets answer

lt_true : (a b : ℕ) → a < b → nat_lt a b ≡ true
lt_true a b h = grind (arith, nat_tests)

whole_at : (header : Header) (entry : Entry) (signature : MessageSignature) (values : List Argument) (rest : List ℕ)
    (b : Bool)
    → fds values ≡ descriptors signature.kinds
    → Meets (λ w. cond (not b) (Err faults.TrailingBytes)
    (cond (nat_lt w (descriptors signature.kinds)) (Err faults.MissingDescriptor)
    (Ok (record {
      target = record { id = header.object; birth = entry.birth };
      entry = entry;
      signature = signature;
      values = values;
    }))))
whole_at header entry signature values rest false h = fails faults.TrailingBytes (λ k. refl)
whole_at header entry signature values rest true h =
    let m : Received = record {
      target = record { id = header.object; birth = entry.birth };
      entry = entry;
      signature = signature;
      values = values;
    } in
    let answer : Bool → Result Received Fault = λ b. cond b (Err faults.MissingDescriptor) (Ok m) in
    gives m h (λ k p. ap answer (le-ltb k (descriptors signature.kinds) p))
    (λ k p. ap answer (lt_true k (descriptors signature.kinds) p))

whole_meets : (header : Header) (entry : Entry) (signature : MessageSignature)
    (x : Result (List Argument × List ℕ) Fault)
    → HasAll signature.kinds x → Meets (λ w. received_whole header entry signature w x)
whole_meets header entry signature (Err fault) h = fails fault (λ k. refl)
whole_meets header entry signature (Ok found) h = whole_at header entry signature found.0 found.1 (is_empty found.1) h

since_meets : (old : Bool) (header : Header) (entry : Entry) (signature : MessageSignature)
    (x : Result (List Argument × List ℕ) Fault) → HasAll signature.kinds x
    → Meets (λ w. cond old (Err faults.UnknownMessage) (received_whole header entry signature w x))
since_meets true header entry signature x h = fails faults.UnknownMessage (λ k. refl)
since_meets false header entry signature x h = whole_meets header entry signature x h

as_meets : (side : Side) (reader : Reader) (header : Header) (body : List ℕ) (entry : Entry)
    (o : Option MessageSignature)
    → Meets (λ w. received_as side reader header body w entry o)
as_meets side reader header body entry None = fails faults.UnknownMessage (λ k. refl)
as_meets side reader header body entry (Some signature) =
    let r = forgiving (is_error side entry.iface header.opcode) reader in
    since_meets (nat_lt entry.version signature.since) header entry signature (arguments_at r 0 signature.kinds body)
    (all_read r 0 signature.kinds body)

by_meets : (tables : List Interface) (side : Side) (reader : Reader) (header : Header) (body : List ℕ)
    (o : Option Entry) → Meets (λ w. received_by tables side reader header body w o)
by_meets tables side reader header body None = fails faults.UnknownObject (λ k. refl)
by_meets tables side reader header body (Some entry) =
    as_meets side reader header body entry (signature_at tables entry.iface.0 side header.opcode)

pub meets : (tables : List Interface) (side : Side) (reader : Reader) (header : Header) (body : List ℕ)
    → Meets (λ w. received tables side reader header body w)
meets tables side reader header body = by_meets tables side reader header body (reader.object header.object)

-- ---- what is found, whatever follows

-- what is at the front, whatever comes in
pub data Finds (core : Core) (side : Side) : Type 0 where
  nothing : in_front core.inbox ≡ More → Finds core side
  fault : (what : Fault) → ((bytes tokens : List ℕ) → found (with_arrived core bytes tokens) side ≡ Err what)
      → Finds core side
  message : (f : Found) → 8 ≤ f.size → f.size ≤ length core.inbox.bytes → fds f.message.values ≡ takes f.message
      → ((bytes tokens : List ℕ) → takes f.message ≤ length (core.inbox.tokens ++ tokens)
      → found (with_arrived core bytes tokens) side ≡ Ok (Some f))
      → ((bytes tokens : List ℕ) → length (core.inbox.tokens ++ tokens) < takes f.message
      → found (with_arrived core bytes tokens) side ≡ Err faults.MissingDescriptor) → Finds core side

-- if more comes in, only the number of waiting tokens changes for a whole message
whole_found : (core : Core) (side : Side) (n : ℕ) (bytes tokens : List ℕ) → in_front core.inbox ≡ Whole n
    → found (with_arrived core bytes tokens) side
    ≡ found_in n (header_of core.inbox.bytes).opcode
    (received core.tables side (reader_in core side) (header_of core.inbox.bytes) (drop 8 (take n core.inbox.bytes))
    (length (core.inbox.tokens ++ tokens)))
whole_found core side n bytes tokens e =
    let s = front_stands core.inbox.limit.bytes core.inbox.bytes n e in
    let h = header_stays core.inbox.bytes bytes (omega (arith, s.size.header, s.there)) in
    let b = take-append-le n core.inbox.bytes bytes s.there in
    ap (found_at (with_arrived core bytes tokens) side) (whole_stays core.inbox.limit.bytes core.inbox.bytes bytes n e)
    ∙ λ i. found_in n (h i).opcode (received core.tables side (reader_in core side) (h i) (drop 8 (b i))
    (length (core.inbox.tokens ++ tokens)))

at_whole : (core : Core) (side : Side) (n : ℕ) → in_front core.inbox ≡ Whole n
    → Meets (λ w. received core.tables side (reader_in core side) (header_of core.inbox.bytes)
    (drop 8 (take n core.inbox.bytes)) w) → Finds core side
at_whole core side n e (fails what h) =
    fault what (λ bytes tokens. whole_found core side n bytes tokens e
    ∙ ap (found_in n (header_of core.inbox.bytes).opcode) (h (length (core.inbox.tokens ++ tokens))))
at_whole core side n e (gives m count some few) =
    let s = front_stands core.inbox.limit.bytes core.inbox.bytes n e in
    message (record { size = n; opcode = (header_of core.inbox.bytes).opcode; message = m }) s.size.header s.there count
    (λ bytes tokens p. whole_found core side n bytes tokens e
    ∙ ap (found_in n (header_of core.inbox.bytes).opcode) (some (length (core.inbox.tokens ++ tokens)) p))
    (λ bytes tokens p. whole_found core side n bytes tokens e
    ∙ ap (found_in n (header_of core.inbox.bytes).opcode) (few (length (core.inbox.tokens ++ tokens)) p))

finds_at : (core : Core) (side : Side) (x : Front) → in_front core.inbox ≡ x → Finds core side
finds_at core side More e = nothing e
finds_at core side (Bad n) e = fault faults.BadSize
    (λ bytes tokens. ap (found_at (with_arrived core bytes tokens) side)
    (bad_stays core.inbox.limit.bytes core.inbox.bytes bytes n e))
finds_at core side (Whole n) e = at_whole core side n e
    (meets core.tables side (reader_in core side) (header_of core.inbox.bytes) (drop 8 (take n core.inbox.bytes)))

pub finds : (core : Core) (side : Side) → Finds core side
finds core side = finds_at core side (in_front core.inbox) refl

-- ---- what came in two steps, or none

pub arrived_none : (core : Core) → with_arrived core [] [] ≡ core
arrived_none core =
    let b = append-nil core.inbox.bytes in
    let t = append-nil core.inbox.tokens in
    λ i. record core { inbox = record core.inbox { bytes = b i; tokens = t i } }

pub arrived_twice : (core : Core) (a s b t : List ℕ)
    → with_arrived (with_arrived core a s) b t ≡ with_arrived core (a ++ b) (s ++ t)
arrived_twice core a s b t =
    let p = append_assoc core.inbox.bytes a b in
    let q = append_assoc core.inbox.tokens s t in
    λ i. record core { inbox = record core.inbox { bytes = p i; tokens = q i } }

-- ---- a message that was found

-- the message is at the front with all of its tokens, whatever follows
pub record IsFound (core : Core) (side : Side) (f : Found) : Type 0 where
  pub low : 8 ≤ f.size
  pub there : f.size ≤ length core.inbox.bytes
  pub enough : takes f.message ≤ length core.inbox.tokens
  pub count : fds f.message.values ≡ takes f.message
  pub stays : (bytes tokens : List ℕ) → found (with_arrived core bytes tokens) side ≡ Ok (Some f)

side_of : (a b : ℕ) → (a < b) ⊎ (b ≤ a)
side_of a b = elim (ltb a b) as (λ c. ltb a b ≡ c → (a < b) ⊎ (b ≤ a))
    [ true ↦ λ h. inl (grind (arith, nat_tests)) | false ↦ λ h. inr (grind (arith, nat_tests)) ] refl

nothing_found : (core : Core) (side : Side) → in_front core.inbox ≡ More → found core side ≡ Ok None
nothing_found core side e = ap (found_at core side) e

fault_found : (core : Core) (side : Side) (what : Fault)
    → ((bytes tokens : List ℕ) → found (with_arrived core bytes tokens) side ≡ Err what) → found core side ≡ Err what
fault_found core side what h = ap (λ (c : Core). found c side) (sym (arrived_none core)) ∙ h [] []

same_len : (xs : List ℕ) → length (xs ++ []) ≡ length xs
same_len xs = ap length (append-nil xs)

more_len : (n : ℕ) (xs ys : List ℕ) → n ≤ length xs → n ≤ length (xs ++ ys)
more_len n xs ys h = omega (arith, length-append xs ys)

enough_found : (core : Core) (side : Side) (f g : Found)
    → ((bytes tokens : List ℕ) → takes g.message ≤ length (core.inbox.tokens ++ tokens)
    → found (with_arrived core bytes tokens) side ≡ Ok (Some g))
    → takes g.message ≤ length core.inbox.tokens → found core side ≡ Ok (Some f) → g ≡ f
enough_found core side f g some p e =
    let here : found core side ≡ Ok (Some g) = ap (λ (c : Core). found c side) (sym (arrived_none core))
    ∙ some [] [] (more_len (takes g.message) core.inbox.tokens [] p) in
    cc (here, e)

few_found : (core : Core) (side : Side) (g : Found)
    → ((bytes tokens : List ℕ) → length (core.inbox.tokens ++ tokens) < takes g.message
    → found (with_arrived core bytes tokens) side ≡ Err faults.MissingDescriptor)
    → length core.inbox.tokens < takes g.message → found core side ≡ Err faults.MissingDescriptor
few_found core side g few p = ap (λ (c : Core). found c side) (sym (arrived_none core))
    ∙ few [] [] (omega (arith, same_len core.inbox.tokens))

found_by : (core : Core) (side : Side) (f : Found) → found core side ≡ Ok (Some f) → Finds core side
    → IsFound core side f
found_by core side f e (nothing h) = absurd (cc (nothing_found core side h, e))
found_by core side f e (fault what h) = absurd (cc (fault_found core side what h, e))
found_by core side f e (message g low there count some few) =
    elim (side_of (length core.inbox.tokens) (takes g.message)) [
      | inl p ↦ absurd (cc (few_found core side g few p, e))
      | inr p ↦ subst (IsFound core side) (enough_found core side f g some p e)
          (record {
            low = low;
            there = there;
            enough = p;
            count = count;
            stays = λ bytes tokens. some bytes tokens (more_len (takes g.message) core.inbox.tokens tokens p);
          })
    ]

pub is_found : (core : Core) (side : Side) (f : Found) → found core side ≡ Ok (Some f) → IsFound core side f
is_found core side f e = found_by core side f e (finds core side)

-- the report uses only the first waiting tokens
pub reported_stays : (core : Core) (side : Side) (f : Found) (bytes tokens : List ℕ) → IsFound core side f
    → reported (with_arrived core bytes tokens) side f.message ≡ reported core side f.message
reported_stays core side f bytes tokens h = reports_stay (reader_in core side) core.inbox.tokens tokens f.message.values
    (omega (arith, h.enough, h.count))

pub own_stay : (core : Core) (side : Side) (f : Found) (bytes tokens : List ℕ) → IsFound core side f
    → own_tokens (with_arrived core bytes tokens) f.message ≡ own_tokens core f.message
own_stay core side f bytes tokens h = take-append-le (takes f.message) core.inbox.tokens tokens h.enough

-- the message's own tokens are enough for its report
pub reported_own : (core : Core) (side : Side) (f : Found) → IsFound core side f
    → reports_of (reader_in core side) (own_tokens core f.message) f.message.values ≡ reported core side f.message
reported_own core side f h =
    let n = takes f.message in
    let own = take n core.inbox.tokens in
    let len : length own ≡ n = length-take-le n core.inbox.tokens h.enough in
    let whole : own ++ drop n core.inbox.tokens ≡ core.inbox.tokens = take-append-drop n core.inbox.tokens in
    sym (reports_stay (reader_in core side) own (drop n core.inbox.tokens) f.message.values
    (omega (arith, len, h.count))) ∙ ap (λ (l : List ℕ). reports_of (reader_in core side) l f.message.values) whole

-- what came in after the message is still there once it is read
pub past_stays : (core : Core) (side : Side) (f : Found) (bytes tokens : List ℕ) → IsFound core side f
    → past_found (with_arrived core bytes tokens) f ≡ with_arrived (past_found core f) bytes tokens
past_stays core side f bytes tokens h =
    let b = drop-append-le f.size core.inbox.bytes bytes h.there in
    let t = drop-append-le (takes f.message) core.inbox.tokens tokens h.enough in
    let last = ap (drop 8) (take-append-le f.size core.inbox.bytes bytes h.there) in
    let own = own_stay core side f bytes tokens h in
    λ i. record (past_found core f) {
      inbox = record core.inbox {
        bytes = b i;
        tokens = t i;
        last = last i;
        last_tokens = own i;
      };
    }

-- once it is read, fewer bytes wait
pub past_shorter : (core : Core) (side : Side) (f : Found) → IsFound core side f
    → length (past_found core f).inbox.bytes < length core.inbox.bytes
past_shorter core side f h = omega (arith, length-drop f.size core.inbox.bytes, h.low, h.there)

-- ---- a fault

-- A fault that stays whatever comes in; or a message that lacks tokens, a fault that stays until a
-- token comes in.
pub data Faulty (core : Core) (side : Side) (what : Fault) : Type 0 where
  always : ((bytes tokens : List ℕ) → found (with_arrived core bytes tokens) side ≡ Err what) → Faulty core side what
  lacks : (need : Need) → ((bytes tokens : List ℕ) → FrontNeeds (with_arrived core bytes tokens) side need)
      → length core.inbox.tokens < need.tokens → 0 < length core.inbox.bytes → what ≡ faults.MissingDescriptor
      → ((bytes : List ℕ) → found (with_arrived core bytes []) side ≡ Err what) → Faulty core side what

wants_there : (core : Core) (side : Side) (g : Found)
    → ((bytes tokens : List ℕ) → takes g.message ≤ length (core.inbox.tokens ++ tokens)
    → found (with_arrived core bytes tokens) side ≡ Ok (Some g))
    → (bytes tokens : List ℕ) → FrontNeeds (with_arrived core bytes tokens) side (need_of g)
wants_there core side g some bytes tokens =
    let more = replicate (takes g.message) 0 in
    let len : length more ≡ takes g.message = length-replicate (takes g.message) 0 in
    let one = length-append core.inbox.tokens (tokens ++ more) in
    let two = length-append tokens more in
    record {
      more = more;
      message = g;
      there = ap (λ (c : Core). found c side) (arrived_twice core bytes tokens [] more)
          ∙ some (bytes ++ []) (tokens ++ more) (omega arith);
      needed = refl;
    }

fault_by : (core : Core) (side : Side) (what : Fault) → found core side ≡ Err what → Finds core side
    → Faulty core side what
fault_by core side what e (nothing h) = absurd (cc (nothing_found core side h, e))
fault_by core side what e (fault other h) =
    let same : other ≡ what = cc (fault_found core side other h, e) in
    always (λ bytes tokens. h bytes tokens ∙ ap Err same)
fault_by core side what e (message g low there count some few) =
    elim (side_of (length core.inbox.tokens) (takes g.message)) [
      | inl p ↦ (
          let same : faults.MissingDescriptor ≡ what = cc (few_found core side g few p, e) in
          lacks (need_of g) (wants_there core side g some) p (omega arith) (sym same)
          (λ bytes. few bytes [] (omega (arith, same_len core.inbox.tokens)) ∙ ap Err same)
          )
      | inr p ↦ absurd (cc (
        ap (λ (c : Core). found c side) (sym (arrived_none core))
            ∙ some [] [] (more_len (takes g.message) core.inbox.tokens [] p),
        e,
      ))
    ]

pub is_fault : (core : Core) (side : Side) (what : Fault) → found core side ≡ Err what → Faulty core side what
is_fault core side what e = fault_by core side what e (finds core side)

fault_stays_by : (core : Core) (side : Side) (what : Fault) (bytes tokens : List ℕ)
    → (what ≡ faults.MissingDescriptor → tokens ≡ []) → Faulty core side what
    → found (with_arrived core bytes tokens) side ≡ Err what
fault_stays_by core side what bytes tokens n (always h) = h bytes tokens
fault_stays_by core side what bytes tokens n (lacks need w few some e h) =
    ap (λ (t : List ℕ). found (with_arrived core bytes t) side) (n e) ∙ h bytes

pub fault_stays : (core : Core) (side : Side) (what : Fault) (bytes tokens : List ℕ) → found core side ≡ Err what
    → (what ≡ faults.MissingDescriptor → tokens ≡ []) → found (with_arrived core bytes tokens) side ≡ Err what
fault_stays core side what bytes tokens e n = fault_stays_by core side what bytes tokens n (is_fault core side what e)

-- ---- nothing

short_by : (limit : ℕ) (bytes : List ℕ) (x : Front) → 8 ≤ limit → x ≡ More → Seen limit bytes x → length bytes < limit
short_by limit bytes x l e (short p) = omega arith
short_by limit bytes x l e (long p q r) = omega (arith, q.within)
short_by limit bytes x l e (whole q r) = absurd (cc e)
short_by limit bytes x l e (bad p q) = absurd (cc e)

none_by : (core : Core) (side : Side) → found core side ≡ Ok None → Finds core side
    → length core.inbox.bytes < core.inbox.limit.bytes
none_by core side e (nothing h) = short_by core.inbox.limit.bytes core.inbox.bytes (in_front core.inbox)
    (omega (arith, core.inbox.limit.in_range.0)) h (seen core.inbox.limit.bytes core.inbox.bytes)
none_by core side e (fault what h) = absurd (cc (fault_found core side what h, e))
none_by core side e (message g low there count some few) =
    elim (side_of (length core.inbox.tokens) (takes g.message)) [
      | inl p ↦ absurd (cc (few_found core side g few p, e))
      | inr p ↦ absurd (cc (
        ap (λ (c : Core). found c side) (sym (arrived_none core))
            ∙ some [] [] (more_len (takes g.message) core.inbox.tokens [] p),
        e,
      ))
    ]

-- if nothing is found yet, fewer bytes wait than the longest message has
pub none_short : (core : Core) (side : Side) → found core side ≡ Ok None
    → length core.inbox.bytes < core.inbox.limit.bytes
none_short core side e = none_by core side e (finds core side)
