-- How an argument that one end writes arrives at the end that reads it.
use Rattle.std.specs.Prelude.{◌≡◌, ◌≢◌, ℕ, ◌+◌, ◌<◌, ◌≤◌, ◌^◌, true, false, List, ◌∷◌, ◌++◌, length}
use Rattle.std.specs.Prelude.{map}
use Rattle.std.specs.Prelude.{Option, Some, None, FitsSigned}
use Rattle.std.specs.List.{All}
use Rattle.std.specs.Int.{w32}
use Rattle.std.specs.declared.result.Result.TheVariants.{Ok}
use Rattle.wl_wire.specs.declared.kind.Kind.{Kind}
use Rattle.wl_wire.specs.Argument.{Argument, reshaped, Int, Uint, Fixed, Str, Obj, New, NewNamed}
use Rattle.wl_wire.specs.Argument.{Array, Fd}
use Rattle.wl_sigs.specs.Side.{Side}
use Rattle.wl_sigs.specs.Tables.{MessageSignature, Interface, signature_at, descriptors}
use Rattle.wl_object_map.specs.declared.object.Object.{Object}
use Rattle.wl_object_map.specs.declared.object.Entry.{Entry}
use Rattle.wl_objects.specs.declared.argument.Named.{Named}
use Rattle.wl_objects.specs.declared.argument.Named.TheVariants as named_as
use Rattle.wl_objects.specs.declared.lookup.NewId.TheVariants.{Free}
use Rattle.wl_objects.specs.Reading.{Reader, Reported, new_id_by_maker, in_state, arguments_at}
use Rattle.wl_objects.specs.Reading.{reports_of}
use Rattle.wl_object_map.specs.Objects.{Objects, look}
use Rattle.wl_objects.specs.Writing.{Given, wired, spelled, message_len, tokens_of, wrong_place}
use Rattle.wl_objects.specs.Writing.{lost_place}
use Rattle.wl_objects.specs.Messages.{Received, is_hidden}
use Rattle.wl_object_map.specs.View.{lives}

-- The numbers of an argument, and its lengths, fit in a word.
abbrev pub InRange : Given → Type 0
InRange (Int z) = FitsSigned w32 z
InRange (Uint n) = n < 2 ^ 32
InRange (Fixed z) = FitsSigned w32 z
InRange (Str None) = Unit {0}
InRange (Str (Some text)) = length text + 1 < 2 ^ 32
InRange (Obj None) = Unit {0}
InRange (Obj (Some object)) = object.id < 2 ^ 32
InRange (New x) = Unit {0}
InRange (NewNamed iface version x) = (length iface + 1 < 2 ^ 32) × (version < 2 ^ 32)
InRange (Array bytes) = length bytes < 2 ^ 32
InRange (Fd token) = Unit {0}

-- The reader has a writer's object: under the same id, with the same birth and the same interface,
-- live or a zombie.
pub record ReaderHolds (writer : ℕ → Option Entry) (reader : Reader) (object : Object) : Type 0
  where
    pub row : Entry
    pub held : reader.object object.id ≡ Some row
    pub birth : row.birth ≡ object.birth
    pub iface : (entry : Entry) → writer object.id ≡ Some entry → row.iface ≡ entry.iface
    pub not_null : object.id ≢ 0

-- The reader expects an argument of a kind, with the new id n: it has the object that the argument
-- names, and the new id is free for the kind's maker.
abbrev pub IsExpected : (ℕ → Option Entry) → Reader → ℕ → Kind → Given → Type 0
IsExpected writer reader n kind (Obj (Some object)) = ReaderHolds writer reader object
IsExpected writer reader n kind (New x) =
    new_id_by_maker kind (reader.new_id n) (reader.new_server_id n) ≡ Free
IsExpected writer reader n kind (NewNamed iface version x) = reader.new_id n ≡ Free
IsExpected writer reader n kind _ = Unit {0}

-- the same for each argument of a message
abbrev pub AreExpected : (ℕ → Option Entry) → Reader → ℕ → List Kind → List Given → Type 0
AreExpected writer reader n (kind ∷ ks) (x ∷ list) =
    IsExpected writer reader n kind x × AreExpected writer reader n ks list
AreExpected writer reader n _ _ = Unit {0}

-- an object as the writer meant it, live or dead as in the reader's row
abbrev pub named_by_row : Object → Option Entry → Named
named_by_row object None = named_as.Null
named_by_row object (Some row) = in_state row.state object

abbrev pub arrived_object : Reader → Option Object → Named
arrived_object reader None = named_as.Null
arrived_object reader (Some object) = named_by_row object (reader.object object.id)

-- What an argument arrives as: the same value, the object that the writer meant, the new object
-- with the reader's next birth, the same token.
abbrev pub arrived_value : Reader → ℕ → Given → Reported
arrived_value reader n x =
    reshaped (arrived_object reader) (λ _. record { id = n; birth = reader.birth }) (λ token. token)
    x

-- The arguments arrive. They are read as they were written, whatever bytes follow; they are
-- reported as the writer meant them, whatever tokens follow theirs; and as many tokens are taken as
-- were given.
pub record Arrive (reader : Reader) (ks : List Kind) (n : ℕ) (list : List Given) : Type 0 where
  pub read : (rest : List ℕ)
      → arguments_at reader 0 ks (spelled (map (wired n) list) ++ rest)
      ≡ Ok (map (wired n) list, rest)
  pub reported : (more : List ℕ)
      → reports_of reader (tokens_of list ++ more) (map (wired n) list)
      ≡ map (arrived_value reader n) list
  pub taken : descriptors ks ≡ length (tokens_of list)

-- A call's arguments suit the message's kinds and name live objects of the writer.
pub record AreWritten (writer : ℕ → Option Entry) (ks : List Kind) (list : List Given)
    : Type 0 where
  pub suit : wrong_place 0 ks list ≡ None
  pub live : lost_place writer 0 ks list ≡ None
  pub in_range : All InRange list

-- The reader has the target, as the writer had it.
pub record IsTarget (entry : Entry) (reader : Reader) (object : Object) : Type 0 where
  pub row : Entry
  pub held : reader.object object.id ≡ Some row
  pub birth : row.birth ≡ object.birth
  pub iface : row.iface ≡ entry.iface
  pub version : row.version ≡ entry.version

-- a message as its reader receives it; the target has this row
abbrev pub received_as_meant : Object → Entry → MessageSignature → List Argument → Received
received_as_meant target row signature values = record {
  target = target;
  entry = row;
  signature = signature;
  values = values;
}

-- A call is not refused: its target is live with this birth, the message is one that `send` writes
-- and exists at the target's version, its arguments suit and name live objects of the right
-- interfaces, and its length is within the limit.
pub record CallPasses (limit : ℕ) (tables : List Interface) (side : Side) (view : Objects)
    (target : Object) (opcode : ℕ) (list : List Given) (signature : MessageSignature) : Type 0 where
  pub entry : Entry
  pub row : look view target.id ≡ Some entry
  pub birth : entry.birth ≡ target.birth
  pub live : lives entry.state ≡ true
  pub shown : is_hidden side entry.iface opcode ≡ false
  pub exists : signature_at tables entry.iface.0 side opcode ≡ Some signature
  pub since : signature.since ≤ entry.version
  pub suit : wrong_place 0 signature.kinds list ≡ None
  pub can_name : lost_place (look view) 0 signature.kinds list ≡ None
  pub len : message_len (map (wired 0) list) ≤ limit
