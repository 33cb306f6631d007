-- Judging a message. The number of waiting tokens does not matter beyond what any message takes.
use Rattle.std.proofs.Common.{◌≡◌, ℕ, ◌+◌, ◌-◌, ◌≤◌, Bool, true, false, min, cond, take, drop, Some}
use Rattle.std.proofs.Common.{None, List, [], ◌∷◌, length, refl, sym, ap, ◌∙◌, arith, nat_lt}
use Rattle.std.specs.Prelude.{Option}
use Rattle.std.specs.declared.result.Result.{Result}
use Rattle.std.specs.declared.result.Result.TheVariants.{Ok, Err}
use Rattle.std.proofs.lemmas.List.Sums.{sum_by-cons}
use Rattle.std.proofs.lemmas.Bool.Decides.{nat_tests}
use Rattle.wl_wire.specs.declared.header.Header.{Header}
use Rattle.wl_wire.specs.declared.kind.Kind.{Kind}
use Rattle.wl_wire.specs.Argument.{Argument}
use Rattle.wl_sigs.specs.Side.{Side}
use Rattle.wl_sigs.specs.Tables.{MessageSignature, Interface, signature_at}
use Rattle.wl_sigs.specs.Tables.{descriptors, is_descriptor_kind}
use Rattle.wl_sigs.specs.Valid.{Valid}
use Rattle.wl_object_map.specs.declared.object.Entry.{Entry}
use Rattle.wl_objects.specs.declared.error.Fault.{Fault}
use Rattle.wl_objects.specs.declared.error.Fault.TheVariants.{BadBind, BadSize}
use Rattle.wl_objects.specs.Reading.{Reader, arguments_at, forgiving}
use Rattle.wl_objects.specs.Messages.{Received, is_error, received_whole, received_as, received_by, received}
use Rattle.wl_recording.specs.declared.piece.Direction.{Direction}
use Rattle.wl_check.specs.declared.frames.FramedMessage.{FramedMessage}
use Rattle.wl_check.specs.Changes.{Call, side_of}
use Rattle.wl_check.specs.Places.{KnownAtPlace}
use Rattle.wl_message.specs.Cut.{is_size}
use Rattle.wl_wire.specs.Word.{header_at}
use Rattle.wl_check.specs.Rules.{reader_by, is_disallowed_bind, called, judged_message, judged_front}

few_step : (b : Bool) (n m : ℕ) → n ≤ m → cond b 1 0 + n ≤ m + 1
few_step true n m h = omega arith
few_step false n m h = omega arith

few : (ks : List Kind) → descriptors ks ≤ length ks
few [] = omega arith
few (k ∷ ks) = let s = sum_by-cons (λ (x : Kind). cond (is_descriptor_kind x) 1 0) k ks in let h =
    few_step (is_descriptor_kind k) (descriptors ks) (length ks) (few ks) in omega (arith, s, h)

same_test : (w d : ℕ) → d ≤ 20 → nat_lt (min w 18446744073709551615) d ≡ nat_lt w d
same_test w d h = grind (arith, nat_tests)

whole_same : (header : Header) (entry : Entry) (signature : MessageSignature) (w : ℕ)
    (x : Result (List Argument × List ℕ) Fault)
    → descriptors signature.kinds ≤ 20
    → received_whole header entry signature (min w 18446744073709551615) x ≡ received_whole header entry signature w x
whole_same header entry signature w (Err fault) h = refl
whole_same header entry signature w (Ok found) h = rw (same_test w (descriptors signature.kinds) h) refl

as_same : (side : Side) (r : Reader) (header : Header) (body : List ℕ) (w : ℕ) (entry : Entry)
    (o : Option MessageSignature)
    → ((m : MessageSignature) → o ≡ Some m → length m.kinds ≤ 20)
    → received_as side r header body (min w 18446744073709551615) entry o ≡ received_as side r header body w entry o
as_same side r header body w entry None h = refl
as_same side r header body w entry (Some m) h =
    rw (whole_same header entry m w (arguments_at
    (forgiving (is_error side entry.iface header.opcode) r) 0 m.kinds body)
    (let a = h m refl in omega (arith, a, few m.kinds))) refl

by_same : (tables : List Interface) (side : Side) (r : Reader) (header : Header) (body : List ℕ) (w : ℕ)
    (o : Option Entry) → Valid tables
    → received_by tables side r header body (min w 18446744073709551615) o ≡ received_by tables side r header body w o
by_same tables side r header body w None valid = refl
by_same tables side r header body w (Some entry) valid =
    as_same side r header body w entry (signature_at tables entry.iface.0 side header.opcode)
    (valid.small.arguments side entry.iface.0 header.opcode)

pub received_same : (tables : List Interface) (side : Side) (r : Reader) (header : Header) (body : List ℕ) (w n : ℕ)
    → Valid tables → n ≡ min w 18446744073709551615
    → received tables side r header body n ≡ received tables side r header body w
received_same tables side r header body w n valid is =
    rw is (by_same tables side r header body w (r.object header.object) valid)

-- what the code found is the message's judgement
pub judged_is : (tables : List Interface) (k : KnownAtPlace) (frame : FramedMessage) (header : Header) (body : List ℕ)
    (n w : ℕ) (side : Side) (x : Result Received Fault) → Valid tables
    → n ≡ min w 18446744073709551615 → w ≡ frame.tokens - k.taken frame.direction → side ≡ side_of frame.direction
    → x ≡ received tables side (reader_by tables k frame.direction) header body n
    → judged_message tables k frame header body ≡ called tables k frame.direction header.opcode x
judged_is tables k frame header body n w side x valid n_is w_is side_is x_is =
    ap (λ (y : Result Received Fault). called tables k frame.direction header.opcode y)
    (sym (x_is ∙ ap (λ (s : Side). received tables s (reader_by tables k frame.direction) header body n) side_is
    ∙ received_same tables (side_of frame.direction) (reader_by tables k frame.direction) header body w n valid n_is
    ∙ ap (received tables (side_of frame.direction) (reader_by tables k frame.direction) header body) w_is))

pub called_bad : (tables : List Interface) (k : KnownAtPlace) (d : Direction) (opcode : ℕ) (r : Received)
    → is_disallowed_bind tables k (side_of d) opcode r ≡ true → called tables k d opcode (Ok r) ≡ Err BadBind
called_bad tables k d opcode r h = rw h refl

pub called_good : (tables : List Interface) (k : KnownAtPlace) (d : Direction) (opcode : ℕ) (r : Received)
    → is_disallowed_bind tables k (side_of d) opcode r ≡ false
    → called tables k d opcode (Ok r) ≡ Ok (record { direction = d; opcode = opcode; received = r })
called_good tables k d opcode r h = rw h refl

-- a message's header and body, as the code borrows them
pub parts_are : (limit : ℕ) (tables : List Interface) (k : KnownAtPlace) (bytes : List ℕ) (frame : FramedMessage)
    (header : Header) (body : List ℕ) (x : Result Call Fault) → is_size limit frame.size ≡ true
    → header ≡ header_at bytes → body ≡ take (frame.size - 8) (drop 8 bytes)
    → x ≡ judged_message tables k frame header body → x ≡ judged_front limit tables k bytes frame
parts_are limit tables k bytes frame header body x good h b x_is =
    x_is ∙ (λ i. judged_message tables k frame (h i) (b i)) ∙ rw good refl

pub size_bad : (limit : ℕ) (tables : List Interface) (k : KnownAtPlace) (bytes : List ℕ) (frame : FramedMessage)
    → is_size limit frame.size ≡ false → Err BadSize ≡ judged_front limit tables k bytes frame
size_bad limit tables k bytes frame bad = rw bad refl

pub size_good : (limit : ℕ) (tables : List Interface) (k : KnownAtPlace) (bytes : List ℕ) (frame : FramedMessage)
    (call : Call)
    (b : Bool) → is_size limit frame.size ≡ b → Ok call ≡ judged_front limit tables k bytes frame
    → is_size limit frame.size ≡ true
size_good limit tables k bytes frame call true e h = e
size_good limit tables k bytes frame call false e h = let bad = size_bad limit tables k bytes frame e
    in absurd (cc (h, bad))
