-- The line of a message that an end has read, as printed from its report.
use Rattle.std.specs.Prelude.{ℕ, List, [], ◌∷◌, ◌++◌, codes}
use Rattle.std.specs.Prelude.{Option, Some, None, option_map}
use Rattle.wl_wire.specs.declared.kind.Kind.{Kind}
use Rattle.wl_wire.specs.Argument.{Argument, reshaped, Fd}
use Rattle.wl_sigs.specs.Side.{Side}
use Rattle.wl_sigs.specs.Tables.{Interface, MessageSignature, signature_at, named_interface}
use Rattle.wl_object_map.specs.declared.object.Entry.{Entry}
use Rattle.wl_object_map.specs.declared.object.Object.{Object}
use Rattle.wl_objects.specs.declared.argument.Named.{Named}
use Rattle.wl_objects.specs.declared.argument.Named.TheVariants.{Null, Live, Dead}
use Rattle.wl_objects.specs.Reading.{Reported}
use Rattle.wl_objects.specs.Parsed.{seen_args}
use Rattle.wl_trace_line.specs.declared.report.MessageHead.{MessageHead}
use Rattle.wl_trace_line.specs.declared.report.ReportLine.{ReportLine}
use Rattle.wl_trace_line.specs.Text.{known_name, head_text, comma_separated}
use Rattle.wl_trace_line.specs.Argument.{argument_text}

-- the id of an object on the wire, dead or alive
abbrev pub named_id : Named → ℕ
named_id Null = 0
named_id (Live object) = object.id
named_id (Dead object) = object.id

-- the argument as it was on the wire
abbrev pub wire_argument : Reported → Argument
wire_argument value = reshaped named_id (λ (made : Object). made.id) (λ _. tt) value

-- the number shown for a descriptor: its token
abbrev pub descriptor_number : Reported → ℕ
descriptor_number (Fd token) = token
descriptor_number _ = 0

-- The texts of a report's arguments, in order: objects have the interfaces in the signature, and
-- each descriptor shows its token.
abbrev pub report_texts : List Interface → List Kind → List Reported → List (List ℕ)
report_texts tables (kind ∷ ks) (value ∷ values) =
    argument_text tables (named_interface kind) (descriptor_number value) (wire_argument value)
    ∷ report_texts tables ks values
report_texts tables _ _ = []

-- the signature of a message for an object, if the object is known
abbrev pub known_signature : List Interface → Side → Option Entry → ℕ → Option MessageSignature
known_signature tables side None opcode = None
known_signature tables side (Some entry) opcode = signature_at tables entry.iface.0 side opcode

abbrev pub message_name : Option MessageSignature → List ℕ
message_name None = codes "unknown"
message_name (Some signature) = signature.name

abbrev pub message_kinds : Option MessageSignature → List Kind
message_kinds None = []
message_kinds (Some signature) = signature.kinds

-- a message without its arguments
abbrev pub report_head : List Interface → Side → ℕ → Option Entry → ℕ → List ℕ
report_head tables side target entry opcode =
    head_text side (known_name tables (option_map (λ (e : Entry). e.iface) entry)) target
    (message_name (known_signature tables side entry opcode))

-- a message and its arguments, without a line feed
abbrev pub report_line : List Interface → Side → ℕ → Option Entry → ℕ → List Reported → List ℕ
report_line tables side target entry opcode values =
    report_head tables side target entry opcode ++ codes "("
    ++ comma_separated
    (report_texts tables (message_kinds (known_signature tables side entry opcode)) values)
    ++ codes ")"

-- what is printed for the code's types
abbrev pub shown_head : MessageHead → List ℕ
shown_head head = report_head head.tables.now head.side head.target head.entry head.opcode

abbrev pub shown_line : ReportLine → List ℕ
shown_line line =
    report_line line.head.tables.now line.head.side line.head.target line.head.entry
    line.head.opcode (seen_args line.args)
