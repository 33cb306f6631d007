-- What a message makes that was read: its id is free, and the limits leave room for it.
use Rattle.std.proofs.Common.{◌≡◌, ◌⊎◌, ℕ, suc, inl, inr, Bool, true, false, List, [], ◌∷◌, drop, refl, sym, ap}
use Rattle.std.proofs.Common.{subst, ◌∙◌}
use Rattle.std.specs.Prelude.{option_map}
use Rattle.std.specs.declared.option.Option.{Option}
use Rattle.std.specs.declared.option.Option.TheVariants.{None, Some}
use Rattle.std.specs.declared.result.Result.{Result}
use Rattle.std.specs.declared.result.Result.TheVariants.{Ok, Err}
use Rattle.wl_wire.specs.declared.header.Header.{Header}
use Rattle.wl_wire.specs.declared.kind.Iface.{Iface}
use Rattle.wl_wire.specs.declared.kind.ArgFault.{ArgFault}
use Rattle.wl_wire.specs.declared.kind.Kind.{Kind}
use Rattle.wl_wire.specs.declared.kind.Kind.TheVariants as kinds
use Rattle.wl_wire.specs.Argument.{Argument, New, NewNamed}
use Rattle.wl_wire.specs.Reading.{reading}
use Rattle.wl_sigs.specs.Side.TheVariants.{Request, Event}
use Rattle.wl_sigs.specs.Tables.{Interface, place_of, new_objects, server_objects}
use Rattle.wl_sigs.specs.Valid.{Valid}
use Rattle.wl_object_map.specs.View.{free_or_next, has_room}
use Rattle.wl_object_map.specs.Objects as objects
use Rattle.wl_object_map.specs.Objects.{Objects, look}
use Rattle.wl_objects.specs.declared.error.Fault.{Fault}
use Rattle.wl_objects.specs.declared.lookup.NewId.{NewId}
use Rattle.wl_objects.specs.declared.lookup.NewId.TheVariants.{Free, Wrong, TooMany}
use Rattle.wl_objects.specs.Reading.{Reader, new_id_by_maker, forgiving, forgiving_kind, new_fault, value_fault}
use Rattle.wl_objects.specs.Reading.{value_unless}
use Rattle.wl_objects.specs.Reading.{value_or_fault, value_before, value_then_rest, arguments_at}
use Rattle.wl_objects.specs.Messages.{NewObject, Received, is_error, made, made_by, new_id_of, or_else}
use Rattle.wl_objects.specs.Messages.{reader_of, received, server_may_use}
use Rattle.wl_connection.proofs.ReceivedMessage.{is_received}
use Rattle.wl_connection.proofs.Spelled.{read_row}

-- ---- one argument

no_fault : (place : ℕ) (x : NewId) → new_fault place x ≡ None → x ≡ Free
no_fault place Free h = refl
no_fault place Wrong h = absurd (cc h)
no_fault place TooMany h = absurd (cc h)

own_id : (o : Option Iface) (own id : ℕ) (m : NewObject)
    → option_map (λ iface. let made : NewObject = record { id = id; iface = iface; version = own } in made) o ≡ Some m
    → id ≡ m.id
own_id None own id m h = absurd (cc h)
own_id (Some iface) own id m h =
    let same : record { id = id; iface = iface; version = own } ≡ m = cc h in ap (λ (x : NewObject). x.id) same

-- the id of the object that an argument makes is free for the kind's maker
one_free : (tables : List Interface) (r : Reader) (version place : ℕ) (kind : Kind) (value : Argument) (m : NewObject)
    → value_fault r place kind value ≡ None → made_by tables version kind value ≡ Some m
    → new_id_by_maker kind (r.new_id m.id) (r.new_server_id m.id) ≡ Free
one_free tables r version place (kinds.New (Some iface)) (New id) m f h =
    let same : record { id = id; iface = iface; version = version } ≡ m = cc h in
    ap (λ (x : NewObject). r.new_id x.id) (sym same) ∙ no_fault place (r.new_id id) f
one_free tables r version place (kinds.NewByServer iface) (New id) m f h =
    let same : record { id = id; iface = iface; version = version } ≡ m = cc h in
    ap (λ (x : NewObject). r.new_server_id x.id) (sym same) ∙ no_fault place (r.new_server_id id) f
one_free tables r version place (kinds.New None) (NewNamed name own id) m f h =
    ap r.new_id (sym (own_id (place_of tables name) own id m h)) ∙ no_fault place (r.new_id id) f
one_free tables r version place kind value m f h = absurd (cc h)

-- ---- all arguments

-- the first argument read, and those after it
record ReadsFirst (r : Reader) (place : ℕ) (kind : Kind) (ks : List Kind) (values : List Argument) (rest : List ℕ)
    : Type 0 where
  value : Argument
  more : List Argument
  at : List ℕ
  are : values ≡ value ∷ more
  right : value_fault r place kind value ≡ None
  others : arguments_at r (suc place) ks at ≡ Ok (more, rest)

abbrev read_in : Result (List Argument × List ℕ) Fault → List Argument × List ℕ
read_in (Ok found) = found
read_in (Err fault) = ([], [])

behind : (r : Reader) (place : ℕ) (kind : Kind) (ks : List Kind) (values : List Argument) (rest at : List ℕ)
    (value : Argument) (x : Result (List Argument × List ℕ) Fault) → value_fault r place kind value ≡ None
    → arguments_at r (suc place) ks at ≡ x → value_before value x ≡ Ok (values, rest)
    → ReadsFirst r place kind ks values rest
behind r place kind ks values rest at value (Err fault) f o e = absurd (cc e)
behind r place kind ks values rest at value (Ok more) f o e = record {
  value = value;
  more = more.0;
  at = at;
  are = sym (ap (λ x. (read_in x).0) e);
  right = f;
  others = o ∙ ap (λ x. Ok (more.0, (read_in x).1)) e;
}

unfaulted : (r : Reader) (place : ℕ) (kind : Kind) (ks : List Kind) (bytes : List ℕ) (values : List Argument)
    (rest : List ℕ) (value : Argument × ℕ) (x : Option Fault) → value_fault r place kind value.0 ≡ x
    → value_then_rest (arguments_at r (suc place) ks) bytes (value_unless x value) ≡ Ok (values, rest)
    → ReadsFirst r place kind ks values rest
unfaulted r place kind ks bytes values rest value (Some fault) f e = absurd (cc e)
unfaulted r place kind ks bytes values rest value None f e =
    behind r place kind ks values rest (drop value.1 bytes) value.0
    (arguments_at r (suc place) ks (drop value.1 bytes)) f refl e

first_read : (r : Reader) (place : ℕ) (kind : Kind) (ks : List Kind) (bytes : List ℕ) (values : List Argument)
    (rest : List ℕ) (x : Result (Argument × ℕ) ArgFault)
    → value_then_rest (arguments_at r (suc place) ks) bytes (value_or_fault r place kind x) ≡ Ok (values, rest)
    → ReadsFirst r place kind ks values rest
first_read r place kind ks bytes values rest (Err fault) e = absurd (cc e)
first_read r place kind ks bytes values rest (Ok value) e =
    unfaulted r place kind ks bytes values rest value (value_fault r place kind value.0) refl e

pub one_of : (o other : Option NewObject) (m : NewObject) → or_else o other ≡ Some m → (o ≡ Some m) ⊎ (other ≡ Some m)
one_of None other m h = inr h
one_of (Some n) other m h = inl h

-- a message whose kinds make objects of one maker only
module _ (Only : List Kind → Type 0) (pick : NewId → NewId → NewId) (tables : List Interface) (version : ℕ)
    (tail : (kind : Kind) (ks : List Kind) → Only (kind ∷ ks) → Only ks)
    (head : (kind : Kind) (ks : List Kind) (value : Argument) (m : NewObject) (a b : NewId) → Only (kind ∷ ks)
    → made_by tables version kind value ≡ Some m → new_id_by_maker kind a b ≡ pick a b) where
  made_free : (r : Reader) (place : ℕ) (ks : List Kind) (bytes : List ℕ) (values : List Argument) (rest : List ℕ)
      (m : NewObject) → Only ks → arguments_at r place ks bytes ≡ Ok (values, rest)
      → made tables version ks values ≡ Some m → pick (r.new_id m.id) (r.new_server_id m.id) ≡ Free
  made_free r place [] bytes values rest m o e h = absurd (cc h)
  made_free r place (kind ∷ ks) bytes values rest m o e h =
      let f = first_read r place kind ks bytes values rest (reading (forgiving_kind r.forgives kind) bytes) e in
      elim (one_of (made_by tables version kind f.value) (made tables version ks f.more) m
      (subst (λ (l : List Argument). made tables version (kind ∷ ks) l ≡ Some m) f.are h)) [
        | inl a ↦ (let pick_is = head kind ks f.value m (r.new_id m.id) (r.new_server_id m.id) o a in
            sym pick_is ∙ one_free tables r version place kind f.value m f.right a)
        | inr b ↦ made_free r (suc place) ks f.at f.more rest m (tail kind ks o) f.others b
      ]

-- ---- a request makes objects in the client's range, an event in the server's

without_server : (kind : Kind) (ks : List Kind) → server_objects (kind ∷ ks) ≡ [] → server_objects ks ≡ []
without_server kinds.Int ks h = h
without_server kinds.Uint ks h = h
without_server kinds.Fixed ks h = h
without_server (kinds.Str null) ks h = h
without_server (kinds.Obj null iface) ks h = h
without_server (kinds.New iface) ks h = h
without_server (kinds.NewByServer iface) ks h = absurd (cc h)
without_server kinds.Array ks h = h
without_server kinds.Fd ks h = h

of_client : (kind : Kind) (ks : List Kind) (a b : NewId) → server_objects (kind ∷ ks) ≡ []
    → new_id_by_maker kind a b ≡ a
of_client kinds.Int ks a b h = refl
of_client kinds.Uint ks a b h = refl
of_client kinds.Fixed ks a b h = refl
of_client (kinds.Str null) ks a b h = refl
of_client (kinds.Obj null iface) ks a b h = refl
of_client (kinds.New iface) ks a b h = refl
of_client (kinds.NewByServer iface) ks a b h = absurd (cc h)
of_client kinds.Array ks a b h = refl
of_client kinds.Fd ks a b h = refl

pub without_client : (kind : Kind) (ks : List Kind) → new_objects (kind ∷ ks) ≡ [] → new_objects ks ≡ []
without_client kinds.Int ks h = h
without_client kinds.Uint ks h = h
without_client kinds.Fixed ks h = h
without_client (kinds.Str null) ks h = h
without_client (kinds.Obj null iface) ks h = h
without_client (kinds.New iface) ks h = absurd (cc h)
without_client (kinds.NewByServer iface) ks h = h
without_client kinds.Array ks h = h
without_client kinds.Fd ks h = h

of_server : (tables : List Interface) (version : ℕ) (kind : Kind) (ks : List Kind) (value : Argument) (m : NewObject)
    (a b : NewId) → new_objects (kind ∷ ks) ≡ [] → made_by tables version kind value ≡ Some m
    → new_id_by_maker kind a b ≡ b
of_server tables version kinds.Int ks value m a b h e = absurd (cc e)
of_server tables version kinds.Uint ks value m a b h e = absurd (cc e)
of_server tables version kinds.Fixed ks value m a b h e = absurd (cc e)
of_server tables version (kinds.Str null) ks value m a b h e = absurd (cc e)
of_server tables version (kinds.Obj null iface) ks value m a b h e = absurd (cc e)
of_server tables version (kinds.New iface) ks value m a b h e = absurd (cc h)
of_server tables version (kinds.NewByServer iface) ks value m a b h e = refl
of_server tables version kinds.Array ks value m a b h e = absurd (cc e)
of_server tables version kinds.Fd ks value m a b h e = absurd (cc e)

free_by : (free room : Bool) → new_id_of free room ≡ Free → (free ≡ true) × (room ≡ true)
free_by true true h = (refl, refl)
free_by true false h = absurd (cc h)
free_by false room h = absurd (cc h)

-- a request makes an object at a free id of the client's range, with room for it
pub new_free_at_server : (tables : List Interface) (view : Objects) (h : Header) (body : List ℕ) (waiting : ℕ)
    (m : Received) (new : NewObject) → Valid tables
    → received tables Request (reader_of tables Request view) h body waiting ≡ Ok m
    → made tables m.entry.version m.signature.kinds m.values ≡ Some new
    → (free_or_next view.client new.id ≡ true) × (has_room view.client new.id ≡ true)
new_free_at_server tables view h body waiting m new v e is =
    let reader = reader_of tables Request view in
    let p = is_received tables Request reader h body waiting m e in
    let r = forgiving (is_error Request m.entry.iface h.opcode) reader in
    free_by (free_or_next view.client new.id) (has_room view.client new.id)
    (made_free (λ ks. server_objects ks ≡ []) (λ a b. a) tables m.entry.version without_server
    (λ kind ks value o a b h e. of_client kind ks a b h) r 0 m.signature.kinds body m.values [] new
    (v.server_makes.requests m.entry.iface.0 h.opcode m.signature p.signature)
    (read_row tables Request reader h body waiting m (look view h.object) e) is)

-- an event makes an object at an id that the server may use, with room for it
pub new_free_at_client : (tables : List Interface) (view : Objects) (h : Header) (body : List ℕ) (waiting : ℕ)
    (m : Received) (new : NewObject) → Valid tables
    → received tables Event (reader_of tables Event view) h body waiting ≡ Ok m
    → made tables m.entry.version m.signature.kinds m.values ≡ Some new
    → (server_may_use tables view new.id ≡ true) × (objects.has_room view new.id ≡ true)
new_free_at_client tables view h body waiting m new v e is =
    let reader = reader_of tables Event view in
    let p = is_received tables Event reader h body waiting m e in
    let r = forgiving (is_error Event m.entry.iface h.opcode) reader in
    free_by (server_may_use tables view new.id) (objects.has_room view new.id)
    (made_free (λ ks. new_objects ks ≡ []) (λ a b. b) tables m.entry.version without_client
    (of_server tables m.entry.version) r 0 m.signature.kinds body m.values [] new
    (v.few_objects_made.events m.entry.iface.0 h.opcode m.signature p.signature)
    (read_row tables Event reader h body waiting m (look view h.object) e) is)
