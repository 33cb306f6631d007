-- The line of one message in a trace.
use Rattle.std.specs.Prelude.{ℕ, ◌+◌, List, [], ◌∷◌, ◌++◌, codes, if◌then◌else◌}
use Rattle.std.specs.Prelude.{Option, option_map}
use Rattle.wl_wire.specs.declared.kind.Kind.{Kind}
use Rattle.wl_wire.specs.declared.kind.Iface.{Iface}
use Rattle.wl_wire.specs.Argument.{Argument, Obj}
use Rattle.wl_sigs.specs.Side.{Side}
use Rattle.wl_sigs.specs.Tables.{Interface, named_interface}
use Rattle.wl_object_map.specs.declared.object.Entry.{Entry}
use Rattle.wl_objects.specs.Reading.{is_descriptor}
use Rattle.wl_objects.specs.Messages.{Received}
use Rattle.wl_trace_line.specs.Text.{name_of, head_text, comma_separated}
use Rattle.wl_trace_line.specs.Argument.{argument_text}

-- the interface of an object: its own if the object exists; for a new one, that of the signature
abbrev pub told_interface : (ℕ → Option Entry) → Kind → Argument → Option Iface
told_interface held kind (Obj id) = option_map (λ (e : Entry). e.iface) (held id)
told_interface held kind _ = named_interface kind

-- how many tokens have been taken after an argument
abbrev pub taken_with : ℕ → Argument → ℕ
taken_with taken value = if is_descriptor value then taken + 1 else taken

-- the texts of a message's arguments, in order, given the objects and the number of tokens taken
-- before them
abbrev pub trace_texts : List Interface → (ℕ → Option Entry) → ℕ → List Kind → List Argument
    → List (List ℕ)
trace_texts tables held taken (kind ∷ ks) (value ∷ values) =
    argument_text tables (told_interface held kind value) (taken + 1) value
    ∷ trace_texts tables held (taken_with taken value) ks values
trace_texts tables held taken _ _ = []

-- The line of a message that was read, with its line feed, given the tables, the objects, and how
-- many tokens were taken in its direction before it.
abbrev pub line : List Interface → Side → (ℕ → Option Entry) → Received → ℕ → List ℕ
line tables side held message taken =
    head_text side (name_of tables message.entry.iface) message.target.id message.signature.name
    ++ codes "("
    ++ comma_separated (trace_texts tables held taken message.signature.kinds message.values)
    ++ codes ")\n"
