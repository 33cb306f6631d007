-- What the arguments of a message mean to the end that reads it.
use Rattle.std.specs.Prelude.{ℕ, suc, Bool, true, false, List, [], ◌∷◌, drop, nat_eq, if◌then◌else◌}
use Rattle.std.specs.Prelude.{Option, Some, None}
use Rattle.std.specs.declared.result.Result.{Result}
use Rattle.std.specs.declared.result.Result.TheVariants.{Ok, Err}
use Rattle.wl_wire.specs.declared.kind.Kind.{Kind}
use Rattle.wl_wire.specs.declared.kind.Kind.TheVariants as kinds
use Rattle.wl_wire.specs.declared.kind.Iface.{Iface}
use Rattle.wl_wire.specs.declared.kind.ArgFault.{ArgFault}
use Rattle.wl_wire.specs.Argument.{Argument, Shape, reshaped, Obj, New, NewNamed, Fd}
use Rattle.wl_wire.specs.Reading.{reading}
use Rattle.wl_object_map.specs.declared.object.Object.{Object}
use Rattle.wl_object_map.specs.declared.object.Entry.{Entry}
use Rattle.wl_objects.specs.declared.lookup.NewId.{NewId}
use Rattle.wl_objects.specs.declared.lookup.NewId.TheVariants.{Free, Wrong, TooMany}
use Rattle.wl_object_map.specs.declared.object.State.{State}
use Rattle.wl_object_map.specs.declared.object.State.TheVariants as states
use Rattle.wl_objects.specs.declared.argument.Named.{Named}
use Rattle.wl_objects.specs.declared.argument.Named.TheVariants as named_as
use Rattle.wl_objects.specs.declared.error.Fault.{Fault}
use Rattle.wl_objects.specs.declared.error.Fault.TheVariants as faults

-- What a reader knows when a message comes: the object with each id; whether each id can be that of
-- a new object of the client, and of the server; and the birth of a new object. If it forgives, an
-- object argument may be null, unknown and of any interface.
pub record Reader : Type 0 where
  pub object : ℕ → Option Entry
  pub new_id : ℕ → NewId
  pub new_server_id : ℕ → NewId
  pub birth : ℕ
  pub forgives : Bool

-- the kind as this reader takes it
abbrev pub forgiving_kind : Bool → Kind → Kind
forgiving_kind true (kinds.Obj null iface) = kinds.Obj true iface
forgiving_kind _ kind = kind

-- the interface that a kind requires of an object; none for any interface
abbrev pub iface_of : Kind → Option Iface
iface_of (kinds.Obj null iface) = iface
iface_of _ = None

-- whether an object has the required interface
abbrev pub has_required_iface : Option Iface → Entry → Bool
has_required_iface None entry = true
has_required_iface (Some iface) entry = nat_eq iface.0 entry.iface.0

abbrev pub object_fault : ℕ → Option Iface → Option Entry → Option Fault
object_fault place iface None = Some (faults.BadObject place)
object_fault place iface (Some entry) =
    if has_required_iface iface entry then None else Some (faults.BadObject place)

abbrev pub new_fault : ℕ → NewId → Option Fault
new_fault place Free = None
new_fault place Wrong = Some (faults.BadNewId place)
new_fault place TooMany = Some faults.TooManyObjects

-- the result for a new object's id by the argument's kind, from the results for the client and for
-- the server
abbrev pub new_id_by_maker : Kind → NewId → NewId → NewId
new_id_by_maker (kinds.NewByServer iface) of_client of_server = of_server
new_id_by_maker _ of_client of_server = of_client

-- the fault of a value that its bytes spell: an object that is unknown or has another interface, a
-- new id that is not free
abbrev pub value_fault : Reader → ℕ → Kind → Argument → Option Fault
value_fault r place kind (Obj id) =
    if r.forgives then None
    else (if nat_eq id 0 then None else object_fault place (iface_of kind) (r.object id))
value_fault r place kind (New id) =
    new_fault place (new_id_by_maker kind (r.new_id id) (r.new_server_id id))
value_fault r place kind (NewNamed iface version id) = new_fault place (r.new_id id)
value_fault r place kind _ = None

-- a value and its length, unless there is a fault
abbrev pub value_unless : Option Fault → Argument × ℕ → Result (Argument × ℕ) Fault
value_unless None value = Ok value
value_unless (Some fault) value = Err fault

abbrev pub value_or_fault : Reader → ℕ → Kind → Result (Argument × ℕ) ArgFault
    → Result (Argument × ℕ) Fault
value_or_fault r place kind (Err fault) = Err (faults.BadArgument place fault)
value_or_fault r place kind (Ok value) = value_unless (value_fault r place kind value.0) value

-- a value in front of those read after it
abbrev pub value_before : Argument → Result (List Argument × List ℕ) Fault
    → Result (List Argument × List ℕ) Fault
value_before value (Err fault) = Err fault
value_before value (Ok more) = Ok (value ∷ more.0, more.1)

abbrev pub value_then_rest : (List ℕ → Result (List Argument × List ℕ) Fault) → List ℕ
    → Result (Argument × ℕ) Fault → Result (List Argument × List ℕ) Fault
value_then_rest others bytes (Err fault) = Err fault
value_then_rest others bytes (Ok value) = value_before value.0 (others (drop value.1 bytes))

-- The arguments at the front of bytes, one of each kind, and the bytes after them; or the first
-- fault, from the left. The index is that of the first kind.
abbrev pub arguments_at : Reader → ℕ → List Kind → List ℕ → Result (List Argument × List ℕ) Fault
arguments_at r place [] bytes = Ok ([], bytes)
arguments_at r place (kind ∷ ks) bytes =
    value_then_rest (arguments_at r (suc place) ks) bytes
    (value_or_fault r place kind (reading (forgiving_kind r.forgives kind) bytes))

-- a reader that forgives, or does not
abbrev pub forgiving : Bool → Reader → Reader
forgiving forgives r = record r { forgives = forgives }

-- ---- what is reported

-- an argument of a report: objects as the reader has them, a new object with its birth, a
-- descriptor's token
abbrev pub Reported : Type 0
Reported = Shape Named Object ℕ

abbrev pub in_state : State → Object → Named
in_state states.Live object = named_as.Live object
in_state states.Zombie object = named_as.Dead object

-- the object with an id: the birth is its row's, and it is live or dead as the row is
abbrev pub named : ℕ → Option Entry → Named
named id None = named_as.Null
named id (Some entry) = in_state entry.state (record { id = id; birth = entry.birth })

abbrev pub named_at : Reader → ℕ → Named
named_at r id = if nat_eq id 0 then named_as.Null else named id (r.object id)

abbrev pub is_descriptor : {O N F : Type 0} → Shape O N F → Bool
is_descriptor (Fd x) = true
is_descriptor _ = false

abbrev pub head_or : List ℕ → ℕ → ℕ
head_or [] d = d
head_or (x ∷ xs) d = x

-- One argument as reported; the token is the next one that waits.
abbrev pub reported_argument : Reader → ℕ → Argument → Reported
reported_argument r token value =
    reshaped (named_at r) (λ id. record { id = id; birth = r.birth }) (λ _. token) value

-- the tokens after those that an argument takes
abbrev pub tokens_after : Argument → List ℕ → List ℕ
tokens_after value tokens = if is_descriptor value then drop 1 tokens else tokens

-- The arguments as reported: the descriptors take the first waiting tokens, in order.
abbrev pub reports_of : Reader → List ℕ → List Argument → List Reported
reports_of r tokens [] = []
reports_of r tokens (value ∷ values) =
    reported_argument r (head_or tokens 0) value ∷ reports_of r (tokens_after value tokens) values
