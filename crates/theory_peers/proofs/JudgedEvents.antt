-- What the checker reads an event as, if it accepts it.
use Rattle.std.proofs.Common.{◌≡◌, ℕ, ◌+◌, ◌-◌, Bool, true, false, cond, List, [], ◌∷◌}
use Rattle.std.proofs.Common.{take, drop, refl, sym, ap, subst, ◌∙◌}
use Rattle.std.specs.Prelude.{nat_lt, not}
use Rattle.std.specs.declared.option.Option.{Option}
use Rattle.std.specs.declared.option.Option.TheVariants.{None, Some}
use Rattle.std.specs.declared.result.Result.{Result}
use Rattle.std.specs.declared.result.Result.TheVariants.{Ok, Err}
use Rattle.wl_wire.specs.declared.header.Header.{Header}
use Rattle.wl_wire.specs.Argument.{Argument}
use Rattle.wl_wire.specs.Word.{header_at}
use Rattle.wl_sigs.specs.Side.TheVariants.{Event}
use Rattle.wl_sigs.specs.Tables.{Interface, MessageSignature, descriptors, signature_at}
use Rattle.wl_sigs.specs.Rules.{is_empty}
use Rattle.wl_message.specs.Cut.{is_size}
use Rattle.wl_object_map.specs.declared.object.Entry.{Entry}
use Rattle.wl_objects.specs.declared.error.Fault.{Fault}
use Rattle.wl_objects.specs.declared.error.Fault.TheVariants.{BadSize, TrailingBytes, MissingDescriptor, UnknownMessage}
use Rattle.wl_objects.specs.Messages.{Received, is_error, received, received_as, received_by}
use Rattle.wl_objects.specs.Messages.{received_whole}
use Rattle.wl_objects.specs.Reading.{Reader, arguments_at, forgiving}
use Rattle.wl_recording.specs.declared.piece.Direction.TheVariants.{ToClient}
use Rattle.wl_check.specs.Changes.{Call}
use Rattle.wl_check.specs.Merged.{span, framed}
use Rattle.wl_check.specs.Places.{KnownAtPlace as Knows}
use Rattle.wl_check.specs.Rules.{called, judged, judged_message, reader_by}

-- the checker's reader of an event for this object; of wl_display.error it forgives unknown objects
abbrev pub event_reader : List Interface → Knows → Entry → ℕ → Reader
event_reader tables k entry opcode = forgiving (is_error Event entry.iface opcode) (reader_by tables k ToClient)

-- what was received: the target's entry, the signature, and the arguments
pub record IsEventReadAs (tables : List Interface) (k : Knows) (header : Header) (body : List ℕ) (waiting : ℕ)
    (r : Received) : Type 0 where
  pub target : r.target ≡ record { id = header.object; birth = r.entry.birth }
  pub held : k.object header.object ≡ Some r.entry
  pub there : signature_at tables r.entry.iface.0 Event header.opcode ≡ Some r.signature
  pub old_enough : nat_lt r.entry.version r.signature.since ≡ false
  pub arguments : arguments_at (event_reader tables k r.entry header.opcode) 0 r.signature.kinds body ≡ Ok (r.values, [])
  pub enough : nat_lt waiting (descriptors r.signature.kinds) ≡ false

module _ (tables : List Interface) (k : Knows) (header : Header) (body : List ℕ) (waiting : ℕ) (r : Received) where
  empty_is : (xs : List ℕ) → not (is_empty xs) ≡ false → xs ≡ []
  empty_is [] h = refl
  empty_is (x ∷ xs) h = absurd (cc h)

  read_tests : (entry : Entry) (signature : MessageSignature) (found : List Argument × List ℕ) (a b : Bool)
      → k.object header.object ≡ Some entry
      → signature_at tables entry.iface.0 Event header.opcode ≡ Some signature
      → nat_lt entry.version signature.since ≡ false
      → arguments_at (event_reader tables k entry header.opcode) 0 signature.kinds body ≡ Ok found
      → not (is_empty found.1) ≡ a
      → nat_lt waiting (descriptors signature.kinds) ≡ b
      → cond a (Err TrailingBytes) (cond b (Err MissingDescriptor) (Ok (let received : Received = record {
        target = record { id = header.object; birth = entry.birth };
        entry = entry;
        signature = signature;
        values = found.0;
      } in received))) ≡ Ok r
      → IsEventReadAs tables k header body waiting r
  read_tests entry signature found true b o s old args t w h = absurd (cc h)
  read_tests entry signature found false true o s old args t w h = absurd (cc h)
  read_tests entry signature found false false o s old args t w h =
      let same : record {
        target = record { id = header.object; birth = entry.birth };
        entry = entry;
        signature = signature;
        values = found.0;
      } ≡ r = cc h in
      subst (IsEventReadAs tables k header body waiting) same (record {
        target = refl;
        held = o;
        there = s;
        old_enough = old;
        arguments = args ∙ ap (λ (l : List ℕ). Ok (found.0, l)) (empty_is found.1 t);
        enough = w;
      })

  read_whole : (entry : Entry) (signature : MessageSignature) (x : Result (List Argument × List ℕ) Fault)
      → k.object header.object ≡ Some entry
      → signature_at tables entry.iface.0 Event header.opcode ≡ Some signature
      → nat_lt entry.version signature.since ≡ false
      → arguments_at (event_reader tables k entry header.opcode) 0 signature.kinds body ≡ x
      → received_whole header entry signature waiting x ≡ Ok r → IsEventReadAs tables k header body waiting r
  read_whole entry signature (Err fault) o s old args h = absurd (cc h)
  read_whole entry signature (Ok found) o s old args h =
      read_tests entry signature found (not (is_empty found.1)) (nat_lt waiting (descriptors signature.kinds)) o s old
      args refl refl h

  read_since : (entry : Entry) (signature : MessageSignature) (b : Bool) → nat_lt entry.version signature.since ≡ b
      → k.object header.object ≡ Some entry
      → signature_at tables entry.iface.0 Event header.opcode ≡ Some signature
      → cond b (Err UnknownMessage) (received_whole header entry signature waiting
      (arguments_at (event_reader tables k entry header.opcode) 0 signature.kinds body)) ≡ Ok r
      → IsEventReadAs tables k header body waiting r
  read_since entry signature true old o s h = absurd (cc h)
  read_since entry signature false old o s h =
      read_whole entry signature (arguments_at (event_reader tables k entry header.opcode) 0 signature.kinds body) o s
      old refl h

  read_signed : (entry : Entry) (signature : Option MessageSignature) → k.object header.object ≡ Some entry
      → signature_at tables entry.iface.0 Event header.opcode ≡ signature
      → received_as Event (reader_by tables k ToClient) header body waiting entry signature ≡ Ok r
      → IsEventReadAs tables k header body waiting r
  read_signed entry None o s h = absurd (cc h)
  read_signed entry (Some signature) o s h =
      read_since entry signature (nat_lt entry.version signature.since) refl o s h

  read_object : (entry : Option Entry) → k.object header.object ≡ entry
      → received_by tables Event (reader_by tables k ToClient) header body waiting entry ≡ Ok r
      → IsEventReadAs tables k header body waiting r
  read_object None o h = absurd (cc h)
  read_object (Some entry) o h =
      read_signed entry (signature_at tables entry.iface.0 Event header.opcode) o refl h

-- a judged event: it has a size, and it was read
pub record IsEventJudgedAs (limit : ℕ) (tables : List Interface) (k : Knows) (stream : List ℕ) (place size waiting : ℕ)
    (call : Call) : Type 0 where
  pub received : Received
  pub read : IsEventReadAs tables k (header_at (drop place stream)) (take (size - 8) (drop (place + 8) stream)) waiting
      received
  pub sized : is_size limit size ≡ true
  pub call_is : call ≡ record {
    direction = ToClient;
    opcode = (header_at (drop place stream)).opcode;
    received = received;
  }

module _ (limit : ℕ) (tables : List Interface) (k : Knows) (stream : List ℕ) (place size tokens : ℕ) (call : Call) where
  abbrev header : Header
  header = header_at (drop place stream)

  abbrev body : List ℕ
  body = take (size - 8) (drop (place + 8) stream)

  abbrev waiting : ℕ
  waiting = tokens - k.taken ToClient

  judged_read : (x : Result Received Fault)
      → received tables Event (reader_by tables k ToClient) header body waiting ≡ x
      → is_size limit size ≡ true → called tables k ToClient header.opcode x ≡ Ok call
      → IsEventJudgedAs limit tables k stream place size waiting call
  judged_read (Err fault) is sized h = absurd (cc h)
  judged_read (Ok r) is sized h =
      let same : record { direction = ToClient; opcode = header.opcode; received = r } ≡ call = cc h in
      record {
        received = r;
        read = read_object tables k header body waiting r (k.object header.object) refl is;
        sized = sized;
        call_is = sym same;
      }

  judged_sized : (b : Bool) → is_size limit size ≡ b
      → cond b (judged_message tables k (framed ToClient tokens (span place size)) header body) (Err BadSize) ≡ Ok call
      → IsEventJudgedAs limit tables k stream place size waiting call
  judged_sized false sized h = absurd (cc h)
  judged_sized true sized h =
      judged_read (received tables Event (reader_by tables k ToClient) header body waiting) refl
      sized h

  pub event_judged_as : judged limit tables k stream (framed ToClient tokens (span place size)) ≡ Ok call
      → IsEventJudgedAs limit tables k stream place size waiting call
  event_judged_as h = judged_sized (is_size limit size) refl h
