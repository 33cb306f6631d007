-- The values of arguments, apart from where they lie in memory.
use Rattle.std.specs.Prelude.{ℕ, ℤ, List, Option, Some, None}
use Rattle.wl_wire.specs.declared.fixed.Fixed as fixed
use Rattle.wl_wire.specs.declared.value.Value.{Value}
use Rattle.wl_wire.specs.declared.value.Value.TheVariants as values
use Rattle.wl_wire.specs.declared.value.ValueRef.{ValueRef}
use Rattle.wl_wire.specs.declared.value.ValueRef.TheVariants as refs

-- One argument: O names an object, N a new object, and F represents a descriptor. Arguments on the
-- wire, in a call, in a report and as meant by the sender differ in these three only.
pub data Shape (O N F : Type 0) : Type 0 where
  Int : ℤ → Shape O N F
  Uint : ℕ → Shape O N F
  Fixed : ℤ → Shape O N F
  Str : Option (List ℕ) → Shape O N F
  Obj : O → Shape O N F
  New : N → Shape O N F
  NewNamed : (iface : List ℕ) (version : ℕ) → N → Shape O N F
  Array : List ℕ → Shape O N F
  Fd : F → Shape O N F

-- the same argument with its objects, new objects and descriptors renamed
abbrev pub reshaped : {O N F O' N' F' : Type 0} → (O → O') → (N → N') → (F → F') → Shape O N F
    → Shape O' N' F'
reshaped o n f (Int z) = Int z
reshaped o n f (Uint m) = Uint m
reshaped o n f (Fixed z) = Fixed z
reshaped o n f (Str s) = Str s
reshaped o n f (Obj x) = Obj (o x)
reshaped o n f (New x) = New (n x)
reshaped o n f (NewNamed iface version x) = NewNamed iface version (n x)
reshaped o n f (Array bytes) = Array bytes
reshaped o n f (Fd x) = Fd (f x)

-- an argument on the wire: objects and new objects are ids, 0 is the null object, and a descriptor
-- is nothing
abbrev pub Argument : Type 0
Argument = Shape ℕ ℕ (Unit {0})

-- a fixed-point number in 256ths
abbrev pub units : fixed.Fixed → ℤ
units z = z.parts

-- the value that an owned value holds
abbrev pub plain : {A : Type 0} → Value A → Argument
plain (values.Int z) = Int z
plain (values.Uint n) = Uint n
plain (values.Fixed z) = Fixed (units z)
plain (values.Str text) = Str text
plain (values.Obj id) = Obj id
plain (values.New id) = New id
plain (values.NewNamed iface version id) = NewNamed iface version id
plain (values.Array bytes) = Array bytes
plain values.Fd = Fd tt

-- the value that a borrowed value holds
abbrev pub lent : ValueRef → Argument
lent (refs.Int z) = Int z
lent (refs.Uint n) = Uint n
lent (refs.Fixed z) = Fixed (units z)
lent (refs.Str None) = Str None
lent (refs.Str (Some text)) = Str (Some text.now)
lent (refs.Obj id) = Obj id
lent (refs.New id) = New id
lent (refs.NewNamed iface version id) = NewNamed iface.now version id
lent (refs.Array bytes) = Array bytes.now
lent refs.Fd = Fd tt
