-- A message in its canonical spelling is read as it was meant.
use Rattle.std.proofs.Common.{◌≡◌, ℕ, suc, ◌+◌, ◌<◌, ◌≤◌, ◌^◌, true, false, cond, List, [], ◌∷◌}
use Rattle.std.proofs.Common.{◌++◌, length, length-append, drop, map, refl, sym, ap, ◌∙◌, arith}
use Rattle.std.specs.Prelude.{nat_eq, nat_lt, option_map}
use Rattle.std.specs.declared.option.Option.{Option}
use Rattle.std.specs.declared.option.Option.TheVariants.{None, Some}
use Rattle.std.specs.declared.result.Result.TheVariants.{Ok}
use Rattle.std.proofs.lemmas.Bool.{ne_eqb, le-ltb}
use Rattle.std.proofs.lemmas.List.{append_assoc, drop_at}
use Rattle.wl_wire.specs.declared.kind.Kind.{Kind}
use Rattle.wl_wire.specs.declared.kind.Kind.TheVariants as kinds
use Rattle.wl_wire.specs.declared.kind.Iface.{Iface}
use Rattle.wl_wire.specs.declared.header.Header.{Header}
use Rattle.wl_wire.specs.Word.{header_bytes, header_at}
use Rattle.wl_wire.specs.Argument.{Argument, reshaped, Int, Uint, Fixed, Str, Obj, New, NewNamed, Array, Fd}
use Rattle.wl_wire.specs.Spelling.{Suits, canonical, spelled_len}
use Rattle.wl_wire.specs.Reading.{reading}
use Rattle.wl_wire.proofs.Canonicals.{reading-canonical, canonical-len, header_at-bytes}
use Rattle.wl_sigs.specs.Side.{Side}
use Rattle.wl_sigs.specs.Side.TheVariants.{Request, Event}
use Rattle.wl_sigs.specs.Tables.{Interface, signature_at, descriptors, is_descriptor_kind}
use Rattle.wl_message.specs.Cut.{greatest_limit}
use Rattle.wl_object_map.specs.declared.object.Object.{Object}
use Rattle.wl_object_map.specs.declared.object.Entry.{Entry}
use Rattle.wl_object_map.specs.declared.object.State.{State}
use Rattle.wl_object_map.specs.declared.object.State.TheVariants as states
use Rattle.wl_object_map.specs.Objects.{Objects, look, next_birth, maker_of}
use Rattle.wl_objects.specs.declared.lookup.NewId.{NewId}
use Rattle.wl_objects.specs.declared.lookup.NewId.TheVariants.{Free}
use Rattle.wl_objects.specs.Reading.{Reader, value_fault, iface_of, has_required_iface, arguments_at, value_or_fault}
use Rattle.wl_objects.specs.Reading.{in_state, reported_argument}
use Rattle.wl_objects.specs.Reading.{reports_of, head_or, tokens_after, new_fault}
use Rattle.wl_objects.specs.Writing.{spelled as spelled_values, message_len, message_bytes}
use Rattle.wl_objects.specs.Messages.{reader_of, maker_by, received, is_error, NewObject, made_by, made}
use Rattle.wl_objects.specs.Messages.{or_else as made_or_else}
use Rattle.wl_connection.proofs.Descriptors.{count_more}
use Rattle.theory_connection.specs.Meant.{Birth, Born, Known, Message, Arg, rearg, born_of}
use Rattle.theory_connection.specs.Meant.{birth_of, wire, tokens, token_in, new_object_in, made_in}
use Rattle.theory_connection.specs.Meant.{born_of_entry, live_entry}
use Rattle.theory_connection.specs.World.{Row, Each}
use Rattle.theory_connection.specs.Flight.{row_of_entry, as_row}
use Rattle.theory_connection.specs.Answers.{Seen, Live, Dead, seen_named, seen_by, by_row, birth_at}
use Rattle.theory_connection.specs.Stands.{FitsSignature, SuitKinds, NamesRightly}
use Rattle.theory_connection.proofs.MadeFor.{MadeFor}
use Rattle.wl_objects.specs.Messages.{or_else}

-- the reader has the object of an argument, and the rows of the world show it
pub record HeldAt (view : Objects) (rows : Birth → Option Row) (x : Known) : Type 0 where
  pub some : 0 < x.id
  pub entry : Entry
  pub there : look view x.id ≡ Some entry
  pub same : born_of_entry x.id entry ≡ x.born
  pub shown : rows x.born.birth ≡ Some (row_of_entry x.id entry)

-- the reader's result for the id of a new object in a message of this side
abbrev pub new_id_for : Side → Reader → ℕ → NewId
new_id_for Request r id = r.new_id id
new_id_for Event r id = r.new_server_id id

-- a new object of a message of this side: its id is free, and it is the next birth
pub record FreeAt (tables : List Interface) (side : Side) (view : Objects) (x : Known) : Type 0 where
  pub free : new_id_for side (reader_of tables side view) x.id ≡ Free
  pub birth : x.born.birth ≡ record { maker = maker_of x.id; number = next_birth (maker_by side) view }

abbrev pub Met : List Interface → Side → Objects → (Birth → Option Row) → Arg Known → Type 0
Met tables side view rows (Obj (Some x)) = HeldAt view rows x
Met tables side view rows (New x) = FreeAt tables side view x
Met tables side view rows (NewNamed name own x) = FreeAt tables side view x
Met tables side view rows _ = Unit {0}

-- for each argument, the end has its object, or the id of its new object is free
abbrev pub AllMet : List Interface → Side → Objects → (Birth → Option Row) → List (Arg Known) → Type 0
AllMet tables side view rows [] = Unit {0}
AllMet tables side view rows (a ∷ args) = Met tables side view rows a × AllMet tables side view rows args

-- ---- what a reader knows

-- the reader knows an object with this id, with the interface and version that were meant
pub record HasObject (r : Reader) (x : Known) : Type 0 where
  pub entry : Entry
  pub there : r.object x.id ≡ Some entry
  pub iface : entry.iface ≡ x.born.iface
  pub version : entry.version ≡ x.born.version

-- the reader knows the object of an argument, or a new id is free to it
abbrev pub Finds : Side → Reader → Arg Known → Type 0
Finds side r (Obj (Some x)) = HasObject r x
Finds side r (New x) = new_id_for side r x.id ≡ Free
Finds side r (NewNamed name own x) = new_id_for side r x.id ≡ Free
Finds side r _ = Unit {0}

is_of_same : (iface : Option Iface) (e d : Entry) → e.iface ≡ d.iface → has_required_iface iface d ≡ true
    → has_required_iface iface e ≡ true
is_of_same None e d h k = refl
is_of_same (Some iface) e d h k = rw h k

-- the reader, without forgiving
abbrev strict : Reader → Reader
strict r = record r { forgives = false }

-- the id of a new object is free if its kind is of the side's maker
new_right : (tables : List Interface) (version place : ℕ) (side : Side) (r : Reader) (kind : Kind) (x : Known)
    → MadeFor side kind → NamesRightly tables version kind (New x) → new_id_for side r x.id ≡ Free
    → value_fault (strict r) place kind (wire (New x)) ≡ None
new_right tables version place Request r (kinds.NewByServer iface) x b n m = absurd b
new_right tables version place Request r kind x b n m = ap (new_fault place) m
new_right tables version place Event r (kinds.NewByServer iface) x b n m = ap (new_fault place) m
new_right tables version place Event r (kinds.New iface) x b n m = absurd b
new_right tables version place Event r kind x b n m = absurd (cc n)

named_right : (tables : List Interface) (version place : ℕ) (side : Side) (r : Reader) (kind : Kind) (name : List ℕ)
    (own : ℕ) (x : Known)
    → MadeFor side kind → NamesRightly tables version kind (NewNamed name own x) → new_id_for side r x.id ≡ Free
    → value_fault (strict r) place kind (wire (NewNamed name own x)) ≡ None
named_right tables version place Request r kind name own x b n m = ap (new_fault place) m
named_right tables version place Event r (kinds.New iface) name own x b n m = absurd b
named_right tables version place Event r kind name own x b n m = absurd (cc n)

right : (tables : List Interface) (version place : ℕ) (side : Side) (r : Reader) (kind : Kind) (a : Arg Known)
    → MadeFor side kind → NamesRightly tables version kind a → Finds side r a
    → value_fault (strict r) place kind (wire a) ≡ None
right tables version place side r kind (Obj None) b n m = refl
right tables version place side r kind (Obj (Some x)) b n m =
    let some : nat_eq x.id 0 ≡ false = ne_eqb x.id 0 (λ h. omega (arith, n.0)) in
    let of : has_required_iface (iface_of kind) m.entry ≡ true =
    is_of_same (iface_of kind) m.entry (live_entry x.born) m.iface n.1 in
    rw (some, m.there, of) refl
right tables version place side r kind (New x) b n m = new_right tables version place side r kind x b n m
right tables version place side r kind (NewNamed name own x) b n m =
    named_right tables version place side r kind name own x b n m
right tables version place side r kind a b n m = refl

read_one : (r : Reader) (place : ℕ) (kind : Kind) (ks : List Kind) (v : Argument) (rest : List ℕ) (vs : List Argument)
    → Suits kind v → value_fault (strict r) place kind v ≡ None
    → arguments_at (strict r) (suc place) ks rest ≡ Ok (vs, [])
    → arguments_at (strict r) place (kind ∷ ks) (canonical v ++ rest) ≡ Ok (v ∷ vs, [])
read_one r place kind ks v rest vs s g h =
    let back : drop (spelled_len v) (canonical v ++ rest) ≡ rest =
    drop_at (canonical v) rest (spelled_len v) (canonical-len v) in
    let found : value_or_fault (strict r) place kind (reading kind (canonical v ++ rest)) ≡ Ok (v, spelled_len v) =
    rw (reading-canonical kind v rest s, value_or_fault, g) refl in
    rw (found, back, h) refl

values_read : (tables : List Interface) (version place : ℕ) (side : Side) (r : Reader) (ks : List Kind)
    (args : List (Arg Known))
    → Each (MadeFor side) ks → SuitKinds tables version ks args → Each (Finds side r) args
    → arguments_at (strict r) place ks (spelled_values (map wire args)) ≡ Ok (map wire args, [])
values_read tables version place side r [] [] n f m = refl
values_read tables version place side r (kind ∷ ks) [] n f m = absurd f
values_read tables version place side r [] (a ∷ args) n f m = absurd f
values_read tables version place side r (kind ∷ ks) (a ∷ args) n f m =
    read_one r place kind ks (wire a) (spelled_values (map wire args)) (map wire args) f.0.0
    (right tables version place side r kind a n.0 f.0.1 m.0)
    (values_read tables version (suc place) side r ks args n.1 f.1 m.1)

-- ---- tokens

tokens_one : (kind : Kind) (a : Arg Known) → Suits kind (wire a)
    → length (token_in a) ≡ cond (is_descriptor_kind kind) 1 0
tokens_one kinds.Int (Int z) s = refl
tokens_one kinds.Uint (Uint z) s = refl
tokens_one kinds.Fixed (Fixed z) s = refl
tokens_one (kinds.Str null) (Str z) s = refl
tokens_one (kinds.Obj null iface) (Obj None) s = refl
tokens_one (kinds.Obj null iface) (Obj (Some x)) s = refl
tokens_one (kinds.New (Some iface)) (New x) s = refl
tokens_one (kinds.New None) (NewNamed name own x) s = refl
tokens_one (kinds.NewByServer iface) (New x) s = refl
tokens_one kinds.Array (Array z) s = refl
tokens_one kinds.Fd (Fd z) s = refl
tokens_one _ _ s = absurd s

-- the kinds take the number of tokens that the arguments have
pub tokens_taken : (tables : List Interface) (version : ℕ) (ks : List Kind) (args : List (Arg Known))
    → SuitKinds tables version ks args → descriptors ks ≡ length (tokens args)
tokens_taken tables version [] [] f = refl
tokens_taken tables version (kind ∷ ks) [] f = absurd f
tokens_taken tables version [] (a ∷ args) f = absurd f
tokens_taken tables version (kind ∷ ks) (a ∷ args) f =
    omega (
      arith,
      count_more kind ks,
      tokens_one kind a f.0.0,
      tokens_taken tables version ks args f.1,
      length-append
          (token_in a) (tokens args),
    )

-- ---- the whole message

-- read by any reader that knows the objects that the message names
pub received_by_any : (tables : List Interface) (side : Side) (r : Reader) (m : Message Known) (header : Header)
    (waiting : ℕ) (o : HasObject r m.target) (f : FitsSignature tables side m) → Each (MadeFor side) f.signature.kinds
    → header.object ≡ m.target.id → header.opcode ≡ m.opcode → Each (Finds side r) m.args → length (tokens m.args) ≤ waiting
    → received tables side r header (spelled_values (map wire m.args)) waiting
    ≡ Ok (record {
      target = record { id = m.target.id; birth = o.entry.birth };
      entry = o.entry;
      signature = f.signature;
      values = map wire m.args;
    })
received_by_any tables side r m header waiting o f none ho hp k w =
    let row_there : r.object header.object ≡ Some o.entry = ap r.object ho ∙ o.there in
    let sig : signature_at tables o.entry.iface.0 side header.opcode ≡ Some f.signature =
    ap (λ (i : Iface). signature_at tables i.0 side header.opcode) o.iface
    ∙ ap (signature_at tables m.target.born.iface.0 side) hp ∙ f.there in
    let old : nat_lt o.entry.version f.signature.since ≡ false =
    le-ltb o.entry.version f.signature.since (omega (arith, f.old_enough, o.version)) in
    let forgives : is_error side o.entry.iface header.opcode ≡ false =
    ap (λ (i : Iface). is_error side i header.opcode) o.iface ∙ ap (is_error side m.target.born.iface) hp
    ∙ f.no_error in
    let enough : nat_lt waiting (descriptors f.signature.kinds) ≡ false =
    le-ltb waiting (descriptors f.signature.kinds)
    (omega (arith, w, tokens_taken tables m.target.born.version f.signature.kinds m.args f.args)) in
    rw (
      row_there,
      sig,
      old,
      forgives,
      values_read tables m.target.born.version 0 side r f.signature.kinds m.args none f.args k,
      enough,
      ho,
    ) refl

module _ (tables : List Interface) (side : Side) (view : Objects) (rows : Birth → Option Row) where
  object_held : (x : Known) → HeldAt view rows x → HasObject (reader_of tables side view) x
  object_held x h = record {
    entry = h.entry;
    there = h.there;
    iface = ap (λ (b : Born). b.iface) h.same;
    version = ap (λ (b : Born). b.version) h.same;
  }

  one_found : (a : Arg Known) → Met tables side view rows a → Finds side (reader_of tables side view) a
  one_found (Obj None) m = tt
  one_found (Obj (Some x)) m = object_held x m
  one_found (New x) m = m.free
  one_found (NewNamed name own x) m = m.free
  one_found a m = tt

  all_found : (args : List (Arg Known)) → AllMet tables side view rows args
      → Each (Finds side (reader_of tables side view)) args
  all_found [] m = tt
  all_found (a ∷ args) m = (one_found a m.0, all_found args m.1)

-- read by an end
pub received_right : (tables : List Interface) (side : Side) (view : Objects) (rows : Birth → Option Row)
    (m : Message Known) (header : Header) (waiting : ℕ) (entry : Entry) (f : FitsSignature tables side m)
    → Each (MadeFor side) f.signature.kinds
    → header.object ≡ m.target.id → header.opcode ≡ m.opcode → look view m.target.id ≡ Some entry
    → born_of_entry m.target.id entry ≡ m.target.born → AllMet tables side view rows m.args → length (tokens m.args) ≤ waiting
    → received tables side (reader_of tables side view) header (spelled_values (map wire m.args)) waiting
    ≡ Ok (record {
      target = record { id = m.target.id; birth = entry.birth };
      entry = entry;
      signature = f.signature;
      values = map wire m.args;
    })
received_right tables side view rows m header waiting entry f none ho hp l s k w =
    let o : HasObject (reader_of tables side view) m.target =
    record {
      entry = entry;
      there = l;
      iface = ap (λ (b : Born). b.iface) s;
      version = ap (λ (b : Born). b.version) s;
    } in
    received_by_any tables side (reader_of tables side view) m header waiting o f none ho hp
    (all_found tables side view rows m.args k) w

-- ---- the report

module _ (tables : List Interface) (side : Side) (view : Objects) (rows : Birth → Option Row) where
  pub report_one : (a : Arg Known) (args : List (Arg Known)) (more : List ℕ) → Met tables side view rows a
      → reshaped seen_named birth_at (λ t. t)
      (reported_argument (reader_of tables side view) (head_or (tokens (a ∷ args) ++ more) 0) (wire a))
      ≡ reshaped (seen_by rows) birth_of (λ t. t) (rearg born_of a)
  report_one (Obj None) args more m = refl
  report_one (Obj (Some x)) args more m =
      let some : nat_eq x.id 0 ≡ false = ne_eqb x.id 0 (λ h. omega (arith, m.some)) in
      rw (some, m.there, m.shown) (ap (λ (s : Seen). Obj s)
      (by_state m.entry.state (record { id = x.id; birth = m.entry.birth }) (born_of_entry x.id m.entry) x.born.birth
      (ap (λ (b : Born). b.birth) m.same)))
    where
      by_state : (s : State) (object : Object) (b : Born) (birth : Birth) → birth_at object ≡ birth
          → seen_named (in_state s object) ≡ by_row birth (Some (as_row s b))
      by_state states.Live object b birth e = ap Live e
      by_state states.Zombie object b birth e = ap Dead e
  report_one (New x) args more m = ap (λ (b : Birth). New b) (sym m.birth)
  report_one (NewNamed name own x) args more m = ap (λ (b : Birth). NewNamed name own b) (sym m.birth)
  report_one a args more m = refl

tokens_left : (a : Arg Known) (args : List (Arg Known)) (more : List ℕ)
    → tokens_after (wire a) (tokens (a ∷ args) ++ more) ≡ tokens args ++ more
tokens_left (Obj None) args more = refl
tokens_left a args more = refl

-- the reports of arguments, by births
pub reports_right : (tables : List Interface) (side : Side) (view : Objects) (rows : Birth → Option Row)
    (args : List (Arg Known)) (more : List ℕ) → AllMet tables side view rows args
    → map (reshaped seen_named birth_at (λ t. t))
    (reports_of (reader_of tables side view) (tokens args ++ more) (map wire args))
    ≡ map (reshaped (seen_by rows) birth_of (λ t. t)) (map (rearg born_of) args)
reports_right tables side view rows [] more m = refl
reports_right tables side view rows (a ∷ args) more m =
    rw (
      tokens_left a args more,
      report_one tables side view rows a args more m.0,
      reports_right tables side view rows args more m.1,
    ) refl

-- ---- the object that the message makes

-- a new object, as an end opens it
abbrev pub made_of : Known → NewObject
made_of x = record { id = x.id; iface = x.born.iface; version = x.born.version }

made_one : (tables : List Interface) (version : ℕ) (kind : Kind) (a : Arg Known) → Suits kind (wire a)
    → NamesRightly tables version kind a → made_by tables version kind (wire a) ≡ option_map made_of (new_object_in a)
made_one tables version kinds.Int (Int z) s n = refl
made_one tables version kinds.Uint (Uint z) s n = refl
made_one tables version kinds.Fixed (Fixed z) s n = refl
made_one tables version (kinds.Str null) (Str z) s n = refl
made_one tables version (kinds.Obj null iface) (Obj None) s n = refl
made_one tables version (kinds.Obj null iface) (Obj (Some x)) s n = refl
made_one tables version (kinds.New (Some iface)) (New x) s n = n
made_one tables version (kinds.New None) (NewNamed name own x) s n = n
made_one tables version (kinds.NewByServer iface) (New x) s n = n
made_one tables version kinds.Array (Array z) s n = refl
made_one tables version kinds.Fd (Fd z) s n = refl
made_one tables version _ _ s n = absurd s

or_made : (a b : Option Known) → made_or_else (option_map made_of a) (option_map made_of b)
    ≡ option_map made_of (or_else a b)
or_made None b = refl
or_made (Some x) b = refl

-- the object that the kinds make from the arguments is the new object in them
pub made_read : (tables : List Interface) (version : ℕ) (ks : List Kind) (args : List (Arg Known))
    → SuitKinds tables version ks args → made tables version ks (map wire args) ≡ option_map made_of (made_in args)
made_read tables version [] [] f = refl
made_read tables version (kind ∷ ks) [] f = absurd f
made_read tables version [] (a ∷ args) f = absurd f
made_read tables version (kind ∷ ks) (a ∷ args) f =
    rw (made_one tables version kind a f.0.0 f.0.1, made_read tables version ks args f.1)
    (or_made (new_object_in a) (made_in args))

-- ---- the header of a message

-- a message's bytes begin with its header, and its values follow
pub record Parted (bytes : List ℕ) (id opcode : ℕ) (vs : List Argument) : Type 0 where
  pub object : (header_at bytes).object ≡ id
  pub opcode_is : (header_at bytes).opcode ≡ opcode

-- a message's bytes are its header and its arguments
pub parted : (bytes more : List ℕ) (id opcode : ℕ) (vs : List Argument) → bytes ≡ message_bytes id opcode vs ++ more
    → id < 2 ^ 32 → opcode < 65536 → message_len vs ≤ greatest_limit → Parted bytes id opcode vs
parted bytes more id opcode vs e i o h =
    let header : Header = record { object = id; size = message_len vs; opcode = opcode } in
    let w : bytes ≡ header_bytes header ++ (spelled_values vs ++ more) =
    e ∙ append_assoc (header_bytes header) (spelled_values vs) more in
    let k : header_at bytes ≡ header = ap header_at w
    ∙ header_at-bytes header (spelled_values vs ++ more)
    (record { object = i; size = omega (arith, h); opcode = o }) in
    record { object = ap (λ (x : Header). x.object) k; opcode_is = ap (λ (x : Header). x.opcode) k }
