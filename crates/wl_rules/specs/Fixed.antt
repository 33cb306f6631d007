-- wl_display, wl_registry, wl_callback and wl_fixes, which all valid tables have, and the
-- vocabulary in which interfaces are written. For each message: its name, the version of its
-- interface that introduced it, the kinds of its arguments, and what it destroys.
use Rattle.std.specs.Prelude.{ℕ, List, [], ◌∷◌, codes, true, false, Option, Some, None}
use Rattle.wl_wire.specs.declared.kind.Kind.{Kind}
use Rattle.wl_wire.specs.declared.kind.Kind.TheVariants as kinds
use Rattle.wl_wire.specs.declared.kind.Iface.{Iface}
use Rattle.wl_rules.specs.declared.side.Destroys.{Destroys}
use Rattle.wl_rules.specs.declared.side.Destroys.TheVariants.{Nothing, Target, Arg}
use Rattle.wl_rules.specs.Tables.{MessageSignature, Interface}

abbrev pub message : List ℕ → ℕ → List Kind → Destroys → MessageSignature
message name since kinds destroys = record {
  name = name;
  since = since;
  kinds = kinds;
  destroys = destroys;
}

-- kinds of arguments
abbrev pub int : Kind
int = kinds.Int

abbrev pub uint : Kind
uint = kinds.Uint

abbrev pub fixed : Kind
fixed = kinds.Fixed

abbrev pub string : Kind
string = kinds.Str false

abbrev pub array : Kind
array = kinds.Array

abbrev pub fd : Kind
fd = kinds.Fd

abbrev pub object : Iface → Kind
object iface = kinds.Obj false (Some iface)

abbrev pub object_or_null : Iface → Kind
object_or_null iface = kinds.Obj true (Some iface)

abbrev pub any_object : Kind
any_object = kinds.Obj false None

abbrev pub new : Option Iface → Kind
new iface = kinds.New iface

-- Made by scripts/core_files.py from core.xml, down to the next mark.

-- the indices of wl_display, wl_registry and wl_callback
abbrev pub display : Iface
display = record { 0 = 0 }

abbrev pub registry : Iface
registry = record { 0 = 1 }

abbrev pub callback : Iface
callback = record { 0 = 2 }

abbrev pub wl_display : Interface
wl_display = record {
  name = codes "wl_display";
  version = 1;
  requests =
      message (codes "sync") 1 ((new (Some callback)) ∷ []) Nothing ∷
      message (codes "get_registry") 1 ((new (Some registry)) ∷ []) Nothing ∷
      [];
  events =
      message (codes "error") 1 (any_object ∷ uint ∷ string ∷ []) Nothing ∷
      message (codes "delete_id") 1 (uint ∷ []) Nothing ∷
      [];
}

abbrev pub wl_registry : Interface
wl_registry = record {
  name = codes "wl_registry";
  version = 1;
  requests =
      message (codes "bind") 1 (uint ∷ (new None) ∷ []) Nothing ∷
      [];
  events =
      message (codes "global") 1 (uint ∷ string ∷ uint ∷ []) Nothing ∷
      message (codes "global_remove") 1 (uint ∷ []) Nothing ∷
      [];
}

abbrev pub wl_callback : Interface
wl_callback = record {
  name = codes "wl_callback";
  version = 1;
  requests = [];
  events =
      message (codes "done") 1 (uint ∷ []) Target ∷
      [];
}

-- the index of wl_fixes
abbrev pub fixes : Iface
fixes = record { 0 = 18 }

abbrev pub wl_fixes : Interface
wl_fixes = record {
  name = codes "wl_fixes";
  version = 1;
  requests =
      message (codes "destroy") 1 ([]) Target ∷
      message (codes "destroy_registry") 1 ((object registry) ∷ []) (Arg 0) ∷
      [];
  events = [];
}

-- End of what is generated.
