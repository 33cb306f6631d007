-- Whole messages are spellings of their values.
use Rattle.std.proofs.Common.{◌≡◌, ◌≢◌, ℕ, suc, ◌+◌, ◌-◌, ◌*◌, ◌/◌, ◌%◌, ◌<◌, ◌≤◌, ◌^◌, Bool, true}
use Rattle.std.proofs.Common.{false, cond, List, [], ◌∷◌, ◌++◌, length, map, take, drop, Some, None}
use Rattle.std.proofs.Common.{refl, sym, ap, subst, ◌∙◌, arith, append_assoc}
use Rattle.std.specs.Prelude.{Option, not, nat_lt, if◌then◌else◌, is_some}
use Rattle.std.specs.List.{All, concat}
use Rattle.std.specs.declared.result.Result.{Result}
use Rattle.std.specs.declared.result.Result.TheVariants.{Ok, Err}
use Rattle.std.proofs.lemmas.Bool.{and_parts, not-false}
use Rattle.std.proofs.lemmas.List.{take-append-drop, length-take-le}
use Rattle.std.proofs.lemmas.List.Elements.{All-take, All-drop, All-nil, All-cons}
use Rattle.wl_wire.specs.declared.kind.Kind.{Kind}
use Rattle.wl_wire.specs.declared.header.Header.{Header}
use Rattle.wl_wire.specs.Word.{header_bytes, header_at, IsHeader}
use Rattle.wl_wire.specs.Argument.{Argument, Int, Uint, Fixed, Str, Obj, New, NewNamed, Array, Fd}
use Rattle.wl_wire.proofs.Canonicals.{canonical-spells, header_at-bytes, header_bytes-at}
use Rattle.wl_wire.proofs.Numbers.{number_at_fits}
use Rattle.wl_sigs.specs.Side.{Side}
use Rattle.wl_sigs.specs.Tables.{Interface, MessageSignature, signature_at, descriptors}
use Rattle.wl_message.specs.Cut.{usual_limit, IsSize, told_size}
use Rattle.wl_message.proofs.Fronts.{front_stands, parts_of}
use Rattle.wl_message.proofs.Cuts.{message_there}
use Rattle.wl_object_map.specs.declared.object.Object.{Object}
use Rattle.wl_object_map.specs.declared.object.Entry.{Entry}
use Rattle.wl_object_map.specs.View.{times}
use Rattle.wl_object_map.specs.Objects.{Objects, ObjectsAreSound, look, next_id}
use Rattle.wl_object_map.specs.ObjectsLaws.{next-low}
use Rattle.wl_objects.specs.declared.error.Fault.{Fault}
use Rattle.wl_objects.specs.declared.error.Fault.TheVariants as faults
use Rattle.wl_objects.specs.Reading.{Reader, forgiving, arguments_at}
use Rattle.wl_objects.specs.Spelling.{SpellsAll}
use Rattle.wl_objects.specs.Spelling as spelling
use Rattle.wl_wire.specs.Spelling.{Suits}
use Rattle.wl_objects.specs.Writing.{Given, wired, spelled, lost_place, wrong_place, can_name}
use Rattle.wl_objects.specs.Writing.{is_live_as, message_len, message_bytes}
use Rattle.wl_objects.specs.Messages.{Received, received, received_by, received_as, received_whole}
use Rattle.wl_objects.specs.Messages.{is_error, maker_by}
use Rattle.wl_objects.proofs.WrittenArrives.{if-none}
use Rattle.wl_objects.proofs.Calls.{len-any, len-least}
use Rattle.wl_objects.proofs.ArgumentsMeet.{met}
use Rattle.wl_objects.proofs.Wholes.{length-message, message-words, meets-spelled, written-spelled, passes}
use Rattle.wl_connection.specs.Core.{Core}
use Rattle.wl_connection.specs.Receiving.{reader_in, Found, found, header_of}
use Rattle.wl_connection.specs.Spelled.{MessageSpells, CallsSpell, FoundSpells}
use Rattle.wl_connection.specs.Streams.{BeginWith}
use Rattle.wl_sigs.specs.Rules.{is_empty}
use Rattle.wl_connection.proofs.Frames.{read_at_front}
use Rattle.wl_connection.proofs.ReceivedMessage.{is_received}

-- ---- what is written

-- an object that can be named has a row, so its id is not 0
row_of : (birth : ℕ) (o : Option Entry) → is_live_as birth o ≡ true → is_some o ≡ true
row_of birth None h = absurd (cc h)
row_of birth (Some e) h = refl

no_row : (view : Objects) → ObjectsAreSound view → is_some (look view 0) ≡ true → ⊥
no_row view s h = by_held (is_some (look view 0)) (times 0 view.client.freed) h s.client.no_other
  where
    by_held : (b : Bool) (n : ℕ) → b ≡ true → cond b 1 0 + n ≡ 0 → ⊥
    by_held true n e z = absurd (omega (arith, z))
    by_held false n e z = cc e

abbrev NoNull : Given → Type 0
NoNull x = (object : Object) → x ≡ Obj (Some object) → object.id ≢ 0

no_null : (view : Objects) (kind : Kind) (x : Given) → ObjectsAreSound view → can_name (look view) kind x ≡ true → NoNull x
no_null view kind (Obj (Some y)) s h object e z =
    let same : y ≡ object = cc e in
    let row = row_of y.birth (look view y.id) (and_parts (is_live_as y.birth (look view y.id)) _ h).0 in
    no_row view s (sym (ap (λ (n : ℕ). is_some (look view n)) (ap (λ (o : Object). o.id) same ∙ z)) ∙ row)
no_null view kind (Obj None) s h object e n = absurd (cc e)
no_null view kind (Int z) s h object e n = absurd (cc e)
no_null view kind (Uint z) s h object e n = absurd (cc e)
no_null view kind (Fixed z) s h object e n = absurd (cc e)
no_null view kind (Str z) s h object e n = absurd (cc e)
no_null view kind (New z) s h object e n = absurd (cc e)
no_null view kind (NewNamed name own z) s h object e n = absurd (cc e)
no_null view kind (Array z) s h object e n = absurd (cc e)
no_null view kind (Fd z) s h object e n = absurd (cc e)

none_null : (view : Objects) (place : ℕ) (ks : List Kind) (list : List Given) → ObjectsAreSound view
    → wrong_place place ks list ≡ None → lost_place (look view) place ks list ≡ None → All NoNull list
none_null view place [] [] s w l = All-nil NoNull
none_null view place [] (x ∷ list) s w l = absurd (cc w)
none_null view place (k ∷ ks) [] s w l = absurd (cc w)
none_null view place (k ∷ ks) (x ∷ list) s w l =
    let a = if-none _ (wrong_place (suc place) ks list) place w in
    let b = if-none (can_name (look view) k x) (lost_place (look view) (suc place) ks list) place l in
    All-cons NoNull x list (no_null view k x s b.0) (none_null view (suc place) ks list s a.1 b.1)

pub calls_spell : (core : Core) (side : Side) (target : Object) (opcode : ℕ) (list : List Given)
    (signature : MessageSignature)
    → CallsSpell core side target opcode list signature
calls_spell core side target opcode list signature s e r =
    let n = next_id (maker_by side) core.view in
    let values = map (wired n) list in
    let p = passes core.outbox.limit.bytes core.tables side core.view target opcode list signature e in
    let low : n < 2 ^ 32 = next-low (maker_by side) core.view s in
    let len : length (message_bytes target.id opcode values) ≡ message_len values =
    length-message target.id opcode values in
    let any = len-any n list in
    let words = message-words values in
    let least = len-least values in
    let nulls = none_null core.view 0 signature.kinds list s p.suit p.can_name in
    record {
      arguments = spelled values;
      whole = ap (λ (k : ℕ). header_bytes (record { object = target.id; size = k; opcode = opcode }) ++ spelled values)
          (sym len);
      size = subst (IsSize core.outbox.limit.bytes) (sym len)
          (record { header = least; words = words; within = omega (arith, any, p.len) });
      each = written-spelled n 0 signature.kinds list low p.suit r (λ object k d h. nulls k d h object);
    }

-- each value suits its kind
abbrev pub EachSuits : List Kind → List Argument → Type 0
EachSuits [] [] = Unit {0}
EachSuits (kind ∷ kinds) (value ∷ values) = Suits kind value × EachSuits kinds values
EachSuits _ _ = ⊥

suited-spelled : (kinds : List Kind) (values : List Argument) → EachSuits kinds values
    → SpellsAll kinds values (spelled values)
suited-spelled [] [] s = spelling.none refl
suited-spelled [] (value ∷ values) s = absurd s
suited-spelled (kind ∷ kinds) [] s = absurd s
suited-spelled (kind ∷ kinds) (value ∷ values) s =
    spelling.more (canonical-spells kind value s.0) (suited-spelled kinds values s.1) refl

-- a message that an end writes on its own account
pub own-spelled : (kinds : List Kind) (object opcode : ℕ) (values : List Argument) → EachSuits kinds values
    → message_len values ≤ 4096 → MessageSpells usual_limit kinds object opcode values
    (message_bytes object opcode values)
own-spelled kinds object opcode values s l =
    let len : length (message_bytes object opcode values) ≡ message_len values = length-message object opcode values in
    let words = message-words values in
    let least = len-least values in
    record {
      arguments = spelled values;
      whole = ap (λ (k : ℕ). header_bytes (record { object = object; size = k; opcode = opcode }) ++ spelled values)
          (sym len);
      size = subst (IsSize usual_limit) (sym len) (record { header = least; words = words; within = l });
      each = suited-spelled kinds values s;
    }

-- ---- what is read

-- the arguments of a message that was received
record ReadBy (side : Side) (reader : Reader) (opcode : ℕ) (body : List ℕ) (entry : Entry)
    (signature : MessageSignature)
    (m : Received) : Type 0 where
  entry_is : m.entry ≡ entry
  signature_is : m.signature ≡ signature
  arguments : arguments_at (forgiving (is_error side entry.iface opcode) reader) 0 signature.kinds body
      ≡ Ok (m.values, [])

empty_is : (xs : List ℕ) → is_empty xs ≡ true → xs ≡ []
empty_is [] h = refl
empty_is (x ∷ xs) h = absurd (cc h)

read_tests : (side : Side) (reader : Reader) (header : Header) (body : List ℕ) (m : Received) (entry : Entry)
    (signature : MessageSignature) (got : List Argument × List ℕ) (a b : Bool) → not (is_empty got.1) ≡ a
    → arguments_at (forgiving (is_error side entry.iface header.opcode) reader) 0 signature.kinds body ≡ Ok got
    → (if a then Err faults.TrailingBytes
    else if b then Err faults.MissingDescriptor
    else Ok (let received : Received = record {
      target = record { id = header.object; birth = entry.birth };
      entry = entry;
      signature = signature;
      values = got.0;
    } in received)) ≡ Ok m
    → ReadBy side reader header.opcode body entry signature m
read_tests side reader header body m entry signature got true b t r h = absurd (cc h)
read_tests side reader header body m entry signature got false true t r h = absurd (cc h)
read_tests side reader header body m entry signature got false false t r h =
    let same : record {
      target = record { id = header.object; birth = entry.birth };
      entry = entry;
      signature = signature;
      values = got.0;
    } ≡ m = cc h in
    subst (ReadBy side reader header.opcode body entry signature) same
    (record {
      entry_is = refl;
      signature_is = refl;
      arguments = r ∙ ap (λ (l : List ℕ). Ok (got.0, l)) (empty_is got.1 (not-false (is_empty got.1) t));
    })

read_whole : (side : Side) (reader : Reader) (header : Header) (body : List ℕ) (waiting : ℕ) (m : Received)
    (entry : Entry) (signature : MessageSignature) (x : Result (List Argument × List ℕ) Fault)
    → arguments_at (forgiving (is_error side entry.iface header.opcode) reader) 0 signature.kinds body ≡ x
    → received_whole header entry signature waiting x ≡ Ok m → ReadBy side reader header.opcode body entry signature m
read_whole side reader header body waiting m entry signature (Err fault) r h = absurd (cc h)
read_whole side reader header body waiting m entry signature (Ok got) r h =
    read_tests side reader header body m entry signature got (not (is_empty got.1))
    (nat_lt waiting (descriptors signature.kinds)) refl r h

read_as : (side : Side) (reader : Reader) (header : Header) (body : List ℕ) (waiting : ℕ) (m : Received) (entry : Entry)
    (signature : MessageSignature) (b : Bool)
    → (if b then Err faults.UnknownMessage
    else received_whole header entry signature waiting
    (arguments_at (forgiving (is_error side entry.iface header.opcode) reader) 0 signature.kinds body)) ≡ Ok m
    → ReadBy side reader header.opcode body entry signature m
read_as side reader header body waiting m entry signature true h = absurd (cc h)
read_as side reader header body waiting m entry signature false h =
    read_whole side reader header body waiting m entry signature _ refl h

abbrev pub IsRead : Side → Reader → ℕ → List ℕ → Received → Type 0
IsRead side reader opcode body m = arguments_at (forgiving (is_error side m.entry.iface opcode) reader) 0
    m.signature.kinds body ≡ Ok (m.values, [])

is_read : (side : Side) (reader : Reader) (opcode : ℕ) (body : List ℕ) (entry : Entry) (signature : MessageSignature)
    (m : Received) → ReadBy side reader opcode body entry signature m → IsRead side reader opcode body m
is_read side reader opcode body entry signature m r =
    (λ i. arguments_at (forgiving (is_error side (r.entry_is i).iface opcode) reader) 0 (r.signature_is i).kinds body)
    ∙ r.arguments

read_entry : (side : Side) (reader : Reader) (header : Header) (body : List ℕ) (waiting : ℕ) (m : Received)
    (entry : Entry) (o : Option MessageSignature)
    → received_as side reader header body waiting entry o ≡ Ok m → IsRead side reader header.opcode body m
read_entry side reader header body waiting m entry None h = absurd (cc h)
read_entry side reader header body waiting m entry (Some signature) h =
    is_read side reader header.opcode body entry signature m
    (read_as side reader header body waiting m entry signature (nat_lt entry.version signature.since) h)

pub read_row : (tables : List Interface) (side : Side) (reader : Reader) (header : Header) (body : List ℕ) (waiting : ℕ)
    (m : Received) (o : Option Entry)
    → received_by tables side reader header body waiting o ≡ Ok m → IsRead side reader header.opcode body m
read_row tables side reader header body waiting m None h = absurd (cc h)
read_row tables side reader header body waiting m (Some entry) h =
    read_entry side reader header body waiting m entry (signature_at tables entry.iface.0 side header.opcode) h

-- ---- the header of the message at the front

record HasHeader (bytes : List ℕ) : Type 0 where
  is : IsHeader (header_of bytes)
  first : take 8 bytes ≡ header_bytes (header_of bytes)

has_header : (bytes : List ℕ) → All (λ b. b < 256) bytes → 8 ≤ length bytes → HasHeader bytes
has_header bytes w l =
    let first = take 8 bytes in
    let n = number_at_fits (drop 4 first) in
    let i : IsHeader (header_at first) = record {
      object = number_at_fits first;
      size = omega (arith, n);
      opcode = omega arith;
    } in
    let e : header_bytes (header_at first) ≡ first =
    header_bytes-at first (All-take (λ b. b < 256) 8 bytes w) (length-take-le 8 bytes l) in
    let s : bytes ≡ header_bytes (header_at first) ++ drop 8 bytes =
    sym (take-append-drop 8 bytes) ∙ ap (λ (x : List ℕ). x ++ drop 8 bytes) (sym e) in
    let same : header_of bytes ≡ header_at first =
    ap header_at s ∙ header_at-bytes (header_at first) (drop 8 bytes) i in
    record { is = subst IsHeader (sym same) i; first = sym e ∙ ap header_bytes (sym same) }

-- the size in the header
told_header : (n o : ℕ) → n < 65536 → o < 65536 → (n * 65536 + o) / 65536 % 256 + 256 *
    ((n * 65536 + o) / 16777216 % 256) ≡ n
told_header n o p q = omega arith

header_size : (bytes : List ℕ) (h : Header) → IsHeader h → take 8 bytes ≡ header_bytes h → h.size ≡ told_size bytes
header_size bytes h i e =
    let s : bytes ≡ header_bytes h ++ drop 8 bytes =
    sym (take-append-drop 8 bytes) ∙ ap (λ (x : List ℕ). x ++ drop 8 bytes) e in
    let t : told_size (header_bytes h ++ drop 8 bytes) ≡ h.size = told_header h.size h.opcode i.size i.opcode in
    sym (ap told_size s ∙ t)

pub found_spells : (core : Core) (side : Side) (f : Found) → FoundSpells core side f
found_spells core side f w e =
    let bytes = core.inbox.bytes in
    let z = read_at_front core side f e in
    let st = front_stands core.inbox.limit.bytes bytes f.size z.0 in
    let big = st.size.header in
    let fits = st.there in
    let h = header_of bytes in
    let hd = has_header bytes w (omega (arith, big, fits)) in
    let size : h.size ≡ f.size = header_size bytes h hd.is hd.first ∙ sym st.told in
    let parts = parts_of bytes h (omega (arith, size, big)) (omega (arith, size, fits)) hd.first in
    let body = take (h.size - 8) (drop 8 bytes) in
    let all : take f.size bytes ≡ header_bytes h ++ body = ap (λ (n : ℕ). take n bytes) (sym size) ∙ parts.parts in
    let len : length (take f.size bytes) ≡ f.size = length-take-le f.size bytes fits in
    let id = (is_received core.tables side (reader_in core side) h (drop 8 (take f.size bytes))
    (length core.inbox.tokens) f.message z.2).id in
    let behind : drop 8 (take f.size bytes) ≡ body = ap (drop 8) all in
    let opcode = z.1 in
    let r : IsRead side (reader_in core side) f.opcode body f.message =
    subst (λ (l : List ℕ). IsRead side (reader_in core side) f.opcode l f.message) behind
    (subst (λ (n : ℕ). IsRead side (reader_in core side) n (drop 8 (take f.size bytes)) f.message) (sym opcode)
    (read_row core.tables side (reader_in core side) h (drop 8 (take f.size bytes)) (length core.inbox.tokens) f.message
    (look core.view h.object) z.2)) in
    let wide : All (λ b. b < 256) body = All-take (λ b. b < 256) (h.size - 8) (drop 8 bytes)
    (All-drop (λ b. b < 256) 8 bytes w) in
    let reader = forgiving (is_error side f.message.entry.iface f.opcode) (reader_in core side) in
    record {
      arguments = body;
      whole = all ∙ (λ i. header_bytes (record { object = sym id i; size = (size ∙ sym len) i; opcode = sym opcode i })
          ++ body);
      size = subst (IsSize core.inbox.limit.bytes) (sym len) st.size;
      each = meets-spelled (met reader 0 f.message.signature.kinds body f.message.values [] wide r) refl;
    }

-- ---- consecutive messages

pub begin_none : (limit : ℕ) (bytes : List ℕ) → BeginWith limit bytes 0 bytes
begin_none limit bytes = record { messages = []; as_many = refl; whole = tt; joined = refl }

pub begin_more : (core : Core) (side : Side) (f : Found) (count : ℕ) (left rest : List ℕ)
    → found core side ≡ Ok (Some f) → left ≡ drop f.size core.inbox.bytes
    → BeginWith core.inbox.limit.bytes left count rest
    → BeginWith core.inbox.limit.bytes core.inbox.bytes (suc count) rest
begin_more core side f count left rest e l b =
    let bytes = core.inbox.bytes in
    let first = take f.size bytes in
    record {
      messages = first ∷ b.messages;
      as_many = ap suc b.as_many;
      whole = (
        message_there core.inbox.limit.bytes bytes f.size
            (read_at_front core side f e).0,
        b.whole,
      );
      joined = sym (take-append-drop f.size bytes) ∙ ap (λ (x : List ℕ). first ++ x) (sym l ∙ b.joined)
          ∙ sym (append_assoc first (concat b.messages) rest);
    }
