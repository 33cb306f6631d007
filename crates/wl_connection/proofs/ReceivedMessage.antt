-- What is known about a received message.
use Rattle.std.proofs.Common.{◌≡◌, ◌≢◌, ℕ, zero, suc, ◌<◌, ◌≤◌, Bool, true, false, List, [], ◌∷◌, length, take, drop}
use Rattle.std.proofs.Common.{get_or, Some, None, refl, ap, subst, arith}
use Rattle.std.specs.Prelude.{Option, not, nat_lt, if◌then◌else◌}
use Rattle.std.specs.declared.result.Result.{Result}
use Rattle.std.specs.declared.result.Result.TheVariants.{Ok, Err}
use Rattle.std.proofs.lemmas.Bool.Decides.{nat_tests}
use Rattle.std.proofs.lemmas.Grind.{common_steps}
use Rattle.wl_wire.specs.declared.kind.Kind.{Kind}
use Rattle.wl_wire.specs.declared.kind.ArgFault.{ArgFault}
use Rattle.wl_wire.specs.declared.header.Header.{Header}
use Rattle.wl_wire.specs.Argument.{Argument}
use Rattle.wl_wire.specs.Reading.{reading}
use Rattle.wl_sigs.specs.Side.{Side}
use Rattle.wl_sigs.specs.Tables.{MessageSignature, Interface, signature_at, descriptors}
use Rattle.wl_object_map.specs.declared.object.Entry.{Entry}
use Rattle.wl_objects.specs.declared.error.Fault.{Fault}
use Rattle.wl_objects.specs.declared.error.Fault.TheVariants as faults
use Rattle.wl_objects.specs.Reading.{Reader, forgiving_kind, value_fault, value_unless, value_or_fault, value_before}
use Rattle.wl_objects.specs.Reading.{value_then_rest}
use Rattle.wl_objects.specs.Reading.{arguments_at, forgiving, reports_of}
use Rattle.wl_objects.specs.Messages.{Received, is_error, received_whole, received_as, received_by, received}
use Rattle.wl_objects.specs.declared.error.NextError.{NextError}
use Rattle.wl_connection.specs.Receiving.{is_empty_list}
use Rattle.wl_connection.specs.Outcomes.{answers_with}
use Rattle.wl_sigs.specs.Rules.{is_empty}

-- A received message: its target has a row, its signature is that of the target's interface, its
-- tokens wait, and it has no more values than its signature has kinds.
pub record IsReceived (tables : List Interface) (side : Side) (reader : Reader) (header : Header) (waiting : ℕ)
    (m : Received) : Type 0 where
  pub row : reader.object header.object ≡ Some m.entry
  pub id : m.target.id ≡ header.object
  pub birth : m.target.birth ≡ m.entry.birth
  pub signature : signature_at tables m.entry.iface.0 side header.opcode ≡ Some m.signature
  pub tokens : descriptors m.signature.kinds ≤ waiting
  pub values : length m.values ≤ length m.signature.kinds

-- ---- a message has no more values than kinds

abbrev Few : ℕ → Result (List Argument × List ℕ) Fault → Type 0
Few n (Err fault) = Unit {0}
Few n (Ok found) = length found.0 ≤ n

few-before : (n : ℕ) (v : Argument) (x : Result (List Argument × List ℕ) Fault) → Few n x
    → Few (suc n) (value_before v x)
few-before n v (Err fault) h = tt
few-before n v (Ok found) h = omega arith

few-unless : (n : ℕ) (v : Argument × ℕ) (bytes : List ℕ) (f : Option Fault)
    (others : List ℕ → Result (List Argument × List ℕ) Fault)
    → ((rest : List ℕ) → Few n (others rest)) → Few (suc n) (value_then_rest others bytes (value_unless f v))
few-unless n v bytes (Some fault) others h = tt
few-unless n v bytes None others h = few-before n v.0 (others (drop v.1 bytes)) (h (drop v.1 bytes))

few-judged : (n : ℕ) (r : Reader) (place : ℕ) (k : Kind) (bytes : List ℕ) (x : Result (Argument × ℕ) ArgFault)
    (others : List ℕ → Result (List Argument × List ℕ) Fault)
    → ((rest : List ℕ) → Few n (others rest)) → Few (suc n) (value_then_rest others bytes (value_or_fault r place k x))
few-judged n r place k bytes (Err fault) others h = tt
few-judged n r place k bytes (Ok v) others h = few-unless n v bytes (value_fault r place k v.0) others h

few : (r : Reader) (place : ℕ) (ks : List Kind) (bytes : List ℕ) → Few (length ks) (arguments_at r place ks bytes)
few r place [] bytes = omega arith
few r place (k ∷ ks) bytes = few-judged (length ks) r place k bytes (reading (forgiving_kind r.forgives k) bytes)
    (arguments_at r (suc place) ks) (λ rest. few r (suc place) ks rest)

-- ---- case by case

abbrev ok_or_this : {X : Type 0} → X → Result X Fault → X
ok_or_this d (Ok x) = x
ok_or_this d (Err fault) = d

whole-tests : (tables : List Interface) (side : Side) (reader : Reader) (header : Header) (waiting : ℕ) (m : Received)
    (entry : Entry) (signature : MessageSignature) (found : List Argument × List ℕ) (a b : Bool)
    → reader.object header.object ≡ Some entry → signature_at tables entry.iface.0 side header.opcode ≡ Some signature
    → length found.0 ≤ length signature.kinds
    → nat_lt waiting (descriptors signature.kinds) ≡ b
    → (if a then Err faults.TrailingBytes
    else if b then Err faults.MissingDescriptor
    else Ok (let received : Received = record {
      target = record { id = header.object; birth = entry.birth };
      entry = entry;
      signature = signature;
      values = found.0;
    } in received)) ≡ Ok m
    → IsReceived tables side reader header waiting m
whole-tests tables side reader header waiting m entry signature found true b r s n t h = absurd (cc h)
whole-tests tables side reader header waiting m entry signature found false true r s n t h = absurd (cc h)
whole-tests tables side reader header waiting m entry signature found false false r s n t h =
    subst (IsReceived tables side reader header waiting) (ap (ok_or_this m) h) (record {
      row = r;
      id = refl;
      birth = refl;
      signature = s;
      tokens = grind (arith, common_steps, nat_tests, t);
      values = n;
    })

whole : (tables : List Interface) (side : Side) (reader : Reader) (header : Header) (waiting : ℕ) (m : Received)
    (entry : Entry) (signature : MessageSignature) (x : Result (List Argument × List ℕ) Fault)
    → reader.object header.object ≡ Some entry → signature_at tables entry.iface.0 side header.opcode ≡ Some signature
    → Few (length signature.kinds) x
    → received_whole header entry signature waiting x ≡ Ok m → IsReceived tables side reader header waiting m
whole tables side reader header waiting m entry signature (Err fault) r s n h = absurd (cc h)
whole tables side reader header waiting m entry signature (Ok found) r s n h =
    whole-tests tables side reader header waiting m entry signature found (not (is_empty found.1))
    (nat_lt waiting (descriptors signature.kinds)) r s n refl h

as-test : (tables : List Interface) (side : Side) (reader : Reader) (header : Header) (body : List ℕ) (waiting : ℕ)
    (m : Received) (entry : Entry) (signature : MessageSignature) (b : Bool)
    → reader.object header.object ≡ Some entry → signature_at tables entry.iface.0 side header.opcode ≡ Some signature
    → (if b then Err faults.UnknownMessage
    else received_whole header entry signature waiting
    (arguments_at (forgiving (is_error side entry.iface header.opcode) reader) 0 signature.kinds body)) ≡ Ok m
    → IsReceived tables side reader header waiting m
as-test tables side reader header body waiting m entry signature true r s h = absurd (cc h)
as-test tables side reader header body waiting m entry signature false r s h =
    let r' = forgiving (is_error side entry.iface header.opcode) reader in
    whole tables side reader header waiting m entry signature (arguments_at r' 0 signature.kinds body) r s
    (few r' 0 signature.kinds body) h

of-entry : (tables : List Interface) (side : Side) (reader : Reader) (header : Header) (body : List ℕ) (waiting : ℕ)
    (m : Received) (entry : Entry) (o : Option MessageSignature)
    → reader.object header.object ≡ Some entry → signature_at tables entry.iface.0 side header.opcode ≡ o
    → received_as side reader header body waiting entry o ≡ Ok m → IsReceived tables side reader header waiting m
of-entry tables side reader header body waiting m entry None r s h = absurd (cc h)
of-entry tables side reader header body waiting m entry (Some signature) r s h =
    as-test tables side reader header body waiting m entry signature (nat_lt entry.version signature.since) r s h

of-row : (tables : List Interface) (side : Side) (reader : Reader) (header : Header) (body : List ℕ) (waiting : ℕ)
    (m : Received) (o : Option Entry)
    → reader.object header.object ≡ o → received_by tables side reader header body waiting o ≡ Ok m
    → IsReceived tables side reader header waiting m
of-row tables side reader header body waiting m None r h = absurd (cc h)
of-row tables side reader header body waiting m (Some entry) r h =
    of-entry tables side reader header body waiting m entry
    (signature_at tables entry.iface.0 side header.opcode) r refl h

pub is_received : (tables : List Interface) (side : Side) (reader : Reader) (header : Header) (body : List ℕ)
    (waiting : ℕ) (m : Received)
    → received tables side reader header body waiting ≡ Ok m → IsReceived tables side reader header waiting m
is_received tables side reader header body waiting m h =
    of-row tables side reader header body waiting m (reader.object header.object) refl h

-- ---- a report uses only the first tokens

abbrev pub SameFirst : ℕ → List ℕ → List ℕ → Type 0
SameFirst n a b = (k : ℕ) → k < n → get_or a k 0 ≡ get_or b k 0

-- equal prefixes of two lists of tokens
pub first-tokens : (n : ℕ) (a b : List ℕ) → n ≤ length a → n ≤ length b → SameFirst n a b → take n a ≡ take n b
first-tokens zero a b p q f = refl
first-tokens (suc n) [] b p q f = absurd (omega (arith, p))
first-tokens (suc n) (x ∷ a) [] p q f = absurd (omega (arith, q))
first-tokens (suc n) (x ∷ a) (y ∷ b) p q f =
    let one : x ≡ y = f 0 (omega arith) in
    let more = first-tokens n a b (omega (arith, p)) (omega (arith, q)) (λ k l. f (suc k) (omega (arith, l))) in
    λ i. one i ∷ more i

-- ---- a message with arguments is reported with arguments

pub some_reported : (r : Reader) (tokens : List ℕ) (values : List Argument) → values ≢ []
    → not (is_empty_list (reports_of r tokens values)) ≡ true
some_reported r tokens [] h = absurd (h refl)
some_reported r tokens (v ∷ values) h = refl

-- a call that returns a report of some kind
pub some_report : {R : Type 0} (is : R → Bool) (x : Result (Option R) NextError) → answers_with is x ≡ true
    → (report : R) × (x ≡ Ok (Some report)) × (is report ≡ true)
some_report is (Ok (Some report)) h = (report, refl, h)
some_report is (Ok None) h = absurd (cc h)
some_report is (Err why) h = absurd (cc h)
