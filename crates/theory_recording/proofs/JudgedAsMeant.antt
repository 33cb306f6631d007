-- A checker that knows what a message in a stream names judges the message as it was meant.
use Rattle.std.proofs.Common.{◌≡◌, ℕ, ◌+◌, ◌-◌, ◌≤◌, Bool, true, false, cond, List, [], ◌∷◌, ◌++◌}
use Rattle.std.proofs.Common.{length, take, drop, map, refl, sym, ap, ◌∙◌, arith}
use Rattle.std.specs.declared.option.Option.TheVariants.{None, Some}
use Rattle.std.specs.declared.result.Result.TheVariants.{Ok, Err}
use Rattle.std.proofs.lemmas.List.{append_assoc, take_at, drop-drop}
use Rattle.wl_wire.specs.declared.header.Header.{Header}
use Rattle.wl_wire.specs.Word.{header_at, header_bytes}
use Rattle.wl_wire.specs.Argument.{Obj, New, NewNamed}
use Rattle.wl_sigs.specs.Tables.{Interface}
use Rattle.wl_sigs.specs.Tables as sigs
use Rattle.wl_message.specs.Cut.{IsMessage, is_size}
use Rattle.wl_message.proofs.Fronts.{is_size-true}
use Rattle.wl_object_map.specs.declared.object.Entry.{Entry}
use Rattle.wl_objects.specs.declared.lookup.NewId.TheVariants.{Free}
use Rattle.wl_objects.specs.declared.error.Fault.TheVariants.{BadSize}
use Rattle.wl_objects.specs.Reading.{Reader}
use Rattle.wl_objects.specs.Writing.{spelled as spelled_values, message_len}
use Rattle.wl_objects.proofs.Wholes.{length-message, length-spelled}
use Rattle.wl_recording.specs.declared.piece.Direction.{Direction}
use Rattle.wl_check.specs.Merged.{span, framed}
use Rattle.wl_check.specs.Changes.{Call, side_of}
use Rattle.wl_check.specs.Places.{KnownAtPlace as Knows}
use Rattle.wl_check.specs.Rules.{reader_by, called, judged, judged_message, is_disallowed_bind}
use Rattle.theory_connection.specs.Meant.{Known, Message, Arg, objects, new_object_in, wire, tokens, spelled_meant}
use Rattle.theory_connection.specs.World.{Each, IfThere}
use Rattle.theory_connection.specs.Stands.{FitsSignature}
use Rattle.wl_sigs.specs.Side.{Side}
use Rattle.theory_connection.proofs.MadeFor.{MadeFor}
use Rattle.theory_connection.proofs.ReadAsMeant.{HasObject, Finds, new_id_for, received_by_any, parted}

-- the checker finds each argument, if it has the argument's object, or the new id is free
pub all_found : (side : Side) (r : Reader) (args : List (Arg Known)) → Each (HasObject r) (objects args)
    → Each (λ a. IfThere (λ x. new_id_for side r x.id ≡ Free) (new_object_in a)) args → Each (Finds side r) args
all_found side r [] o n = tt
all_found side r (Obj None ∷ args) o n = (tt, all_found side r args o n.1)
all_found side r (Obj (Some x) ∷ args) o n = (o.0, all_found side r args o.1 n.1)
all_found side r (New x ∷ args) o n = (n.0, all_found side r args o n.1)
all_found side r (NewNamed name own x ∷ args) o n = (n.0, all_found side r args o n.1)
all_found side r (a ∷ args) o n = (tt, all_found side r args o n.1)

-- the call that a message is read as, if its target has this row
abbrev pub call_as : Direction → Message Known → Entry → sigs.MessageSignature → Call
call_as d m entry signature = record {
  direction = d;
  opcode = m.opcode;
  received = record {
    target = record { id = m.target.id; birth = entry.birth };
    entry = entry;
    signature = signature;
    values = map wire m.args;
  };
}

-- the bytes after the header
pub body_is : (m : Message Known) (stream more : List ℕ) (p : ℕ) → drop p stream ≡ (spelled_meant m).bytes ++ more
    → take (length (spelled_meant m).bytes - 8) (drop (p + 8) stream) ≡ spelled_values (map wire m.args)
body_is m stream more p e =
    let vs = map wire m.args in
    let s = length-spelled vs in
    let l = length-message m.target.id m.opcode vs in
    let header : Header = record { object = m.target.id; size = message_len vs; opcode = m.opcode } in
    let n : length (spelled_values vs) ≡ length (spelled_meant m).bytes - 8 = omega (arith, l, s) in
    let front : drop p stream ≡ header_bytes header ++ (spelled_values vs ++ more) =
    e ∙ append_assoc (header_bytes header) (spelled_values vs) more in
    let behind : drop (p + 8) stream ≡ spelled_values vs ++ more = sym (drop-drop 8 p stream) ∙ ap (drop 8) front in
    ap (take (length (spelled_meant m).bytes - 8)) behind
    ∙ take_at (spelled_values vs) more (length (spelled_meant m).bytes - 8) n

-- A message in a stream that fits keeps all rules under three conditions: the checker has what it
-- names, it is no bad bind, and its direction brought at least the tokens taken before it and its
-- own.
pub frame_called : (limit : ℕ) (tables : List Interface) (k : Knows) (d : Direction) (m : Message Known)
    (stream more : List ℕ) (p t : ℕ) (o : HasObject (reader_by tables k d) m.target) (f : FitsSignature tables (side_of d) m)
    → Each (MadeFor (side_of d)) f.signature.kinds → IsMessage limit (spelled_meant m).bytes → drop p stream ≡ (spelled_meant m).bytes ++ more
    → Each (Finds (side_of d) (reader_by tables k d)) m.args
    → k.taken d + length (tokens m.args) ≤ t
    → is_disallowed_bind tables k (side_of d) m.opcode (call_as d m o.entry f.signature).received ≡ false
    → judged limit tables k stream (framed d t (span p (length (spelled_meant m).bytes)))
    ≡ Ok (call_as d m o.entry f.signature)
frame_called limit tables k d m stream more p t o f none whole e args w good =
    let vs = map wire m.args in
    let n = length (spelled_meant m).bytes in
    let size : is_size limit n ≡ true = is_size-true limit n whole.size in
    let header = header_at (drop p stream) in
    let q = parted (drop p stream) more m.target.id m.opcode vs e (omega (arith, f.word)) f.opcode f.len in
    let enough : length (tokens m.args) ≤ t - k.taken d = omega (arith, w) in
    let read = received_by_any tables (side_of d) (reader_by tables k d) m header
    (t - k.taken d) o f none q.object q.opcode_is args enough in
    let whole_one = judged_message tables k (framed d t (span p n)) header (take (n - 8) (drop (p + 8) stream)) in
    ap (λ (b : Bool). cond b whole_one (Err BadSize)) size
    ∙ ap (judged_message tables k (framed d t (span p n)) header) (body_is m stream more p e)
    ∙ ap (called tables k d header.opcode) read
    ∙ ap (λ (opcode : ℕ). called tables k d opcode (Ok (call_as d m o.entry f.signature).received)) q.opcode_is
    ∙ rw good refl
