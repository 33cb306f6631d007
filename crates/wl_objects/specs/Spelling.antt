-- The arguments of a message on the wire, as relations.
use Rattle.std.specs.Prelude.{◌≡◌, ℕ, suc, List, [], ◌∷◌, ◌++◌, Some, None}
use Rattle.wl_wire.specs.declared.kind.Kind.{Kind}
use Rattle.wl_wire.specs.declared.kind.ArgFault.{ArgFault}
use Rattle.wl_wire.specs.Argument.{Argument}
use Rattle.wl_wire.specs.Spelling.{Spells}
use Rattle.wl_wire.specs.Faults.{IsFirstFault}
use Rattle.wl_objects.specs.declared.error.Fault.{Fault}
use Rattle.wl_objects.specs.declared.error.Fault.TheVariants as faults
use Rattle.wl_objects.specs.Reading.{Reader, forgiving_kind, value_fault}

-- The bytes are spellings of these values for these kinds, joined in order, with nothing left.
pub data SpellsAll : List Kind → List Argument → List ℕ → Type 0 where
  none : {bytes : List ℕ} → bytes ≡ [] → SpellsAll [] [] bytes
  more : {kind : Kind} {ks : List Kind} {value : Argument} {values : List Argument}
      {front rest bytes : List ℕ}
      → Spells kind value front → SpellsAll ks values rest → bytes ≡ front ++ rest
      → SpellsAll (kind ∷ ks) (value ∷ values) bytes

-- The bytes begin with arguments of these kinds, none of them at fault; the rest follows them.
pub data MeetsKinds (r : Reader) : ℕ → List Kind → List ℕ → List Argument → List ℕ → Type 0 where
  none : {place : ℕ} {bytes : List ℕ} → MeetsKinds r place [] bytes [] bytes
  more : {place : ℕ} {kind : Kind} {ks : List Kind} {value : Argument} {values : List Argument}
      {front behind bytes rest : List ℕ}
      → Spells (forgiving_kind r.forgives kind) value front → value_fault r place kind value ≡ None
      → MeetsKinds r (suc place) ks behind values rest
      → bytes ≡ front ++ behind → MeetsKinds r place (kind ∷ ks) bytes (value ∷ values) rest

-- The first argument at fault: the bytes do not spell its kind, or its value is at fault; all
-- arguments before it are right.
pub data FirstFault (r : Reader) : ℕ → List Kind → List ℕ → Fault → Type 0 where
  spelling : {place : ℕ} {kind : Kind} {ks : List Kind} {bytes : List ℕ} {fault : ArgFault}
      → IsFirstFault (forgiving_kind r.forgives kind) bytes fault
      → FirstFault r place (kind ∷ ks) bytes (faults.BadArgument place fault)
  meaning : {place : ℕ} {kind : Kind} {ks : List Kind} {value : Argument} {front bytes : List ℕ}
      {fault : Fault} (behind : List ℕ)
      → Spells (forgiving_kind r.forgives kind) value front
      → value_fault r place kind value ≡ Some fault
      → bytes ≡ front ++ behind → FirstFault r place (kind ∷ ks) bytes fault
  later : {place : ℕ} {kind : Kind} {ks : List Kind} {value : Argument}
      {front behind bytes : List ℕ} {fault : Fault}
      → Spells (forgiving_kind r.forgives kind) value front → value_fault r place kind value ≡ None
      → FirstFault r (suc place) ks behind fault
      → bytes ≡ front ++ behind → FirstFault r place (kind ∷ ks) bytes fault
