-- What valid tables say of the messages that a server reads and writes.
use Rattle.std.proofs.Common.{◌≡◌, ◌≢◌, ℕ, Bool, true, false, List, [], ◌∷◌, map, inl, inr, refl, sym, ap, subst, ◌∙◌, arith}
use Rattle.std.specs.List.{All}
use Rattle.std.proofs.lemmas.List.Elements.{All-tail}
use Rattle.std.proofs.lemmas.Bool.{cases_Bool, eqb-true}
use Rattle.std.specs.Prelude.{nat_eq, option_map}
use Rattle.std.specs.declared.option.Option.{Option}
use Rattle.std.specs.declared.option.Option.TheVariants.{None, Some}
use Rattle.wl_wire.specs.declared.kind.Iface.{Iface}
use Rattle.wl_wire.specs.declared.kind.Kind.{Kind}
use Rattle.wl_wire.specs.declared.kind.Kind.TheVariants as kinds
use Rattle.wl_wire.specs.Argument.{Obj}
use Rattle.wl_wire.specs.Spelling.{Suits}
use Rattle.wl_sigs.specs.Destroys.{Destroys}
use Rattle.wl_sigs.specs.Destroys.TheVariants.{Nothing, Target, Arg as ends_arg}
use Rattle.wl_sigs.specs.Rules.{is_ended_by_event}
use Rattle.wl_sigs.specs.Side.TheVariants.{Request, Event as event_side}
use Rattle.wl_sigs.specs.Tables.{Interface, interface_at, signature_at, destroys_argument, destroys_target}
use Rattle.wl_sigs.specs.Tables.{has_destroying_event}
use Rattle.wl_sigs.specs.Valid.{Valid}
use Rattle.wl_object_map.specs.Ranges.{is_of_server}
use Rattle.wl_objects.specs.Messages.{NewObject, made}
use Rattle.wl_objects.specs.Reading.{has_required_iface, iface_of}
use Rattle.wl_connection.proofs.Ends.{ends_no_argument}
use Rattle.wl_connection.proofs.MadeByEvent.{IsMadeByEvent, made_by_event}
use Rattle.theory_connection.specs.Meant.{Born, Known, Message, Arg, ended_by, live_entry, made_in, object_at, objects, wire}
use Rattle.theory_connection.specs.World.{Row, Open, Each, IfThere, display_born}
use Rattle.theory_connection.specs.Flight.{Rows}
use Rattle.theory_connection.specs.Stands.{FitsSignature, MadePlain, SuitKinds, by_event}
use Rattle.theory_connection.proofs.EndedObject.{Mortal, argument_is}
use Rattle.theory_connection.proofs.ReadAsMeant.{made_of, made_read}
use Rattle.theory_connection.proofs.Rules.{display_lasts, display_plain, ends_so}
use Rattle.theory_connection.proofs.WholeInFlight.{OfClient, OpenRow, ThereRow}
use Rattle.theory_peers.proofs.DisplayStays.{HasDisplay}

-- ---- requests

abbrev NamedKind : Kind → Type 0
NamedKind k = (null : Bool) → k ≢ kinds.Obj null None

abbrev PlainKind : List Interface → Kind → Type 0
PlainKind tables k = (null : Bool) (iface : Iface) (i : Interface) → k ≡ kinds.Obj null (Some iface)
    → interface_at tables iface.0 ≡ Some i → has_destroying_event i ≡ false

plain_at : (tables : List Interface) (iface own : Iface) (o : Option Interface) → interface_at tables own.0 ≡ o
    → nat_eq iface.0 own.0 ≡ true
    → ((i : Interface) → interface_at tables iface.0 ≡ Some i → has_destroying_event i ≡ false)
    → is_ended_by_event o ≡ false
plain_at tables iface own None h s f = refl
plain_at tables iface own (Some i) h s f = f i (ap (interface_at tables) (eqb-true iface.0 own.0 s) ∙ h)

one_plain : (tables : List Interface) (k : Kind) (x : Known) → Suits k (Obj x.id)
    → has_required_iface (iface_of k) (live_entry x.born) ≡ true → NamedKind k → PlainKind tables k
    → by_event tables x.born ≡ false
one_plain tables (kinds.Obj null None) x s h n p = absurd (n null refl)
one_plain tables (kinds.Obj null (Some iface)) x s h n p =
    plain_at tables iface x.born.iface (interface_at tables x.born.iface.0) refl h (λ i q. p null iface i refl q)
one_plain tables (kinds.New None) x s h n p = absurd s
one_plain tables (kinds.New (Some iface)) x s h n p = absurd s
one_plain tables k x s h n p = absurd s

all_plain : (tables : List Interface) (version : ℕ) (ks : List Kind) (args : List (Arg Known))
    → SuitKinds tables version ks args → All NamedKind ks → All (PlainKind tables) ks
    → Each (λ x. by_event tables x.born ≡ false) (objects args)
all_plain tables version [] [] s n p = tt
all_plain tables version [] (a ∷ args) s n p = absurd s
all_plain tables version (k ∷ ks) [] s n p = absurd s
all_plain tables version (k ∷ ks) (Obj None ∷ args) s n p =
    all_plain tables version ks args s.1 (All-tail NamedKind k ks n) (All-tail (PlainKind tables) k ks p)
all_plain tables version (k ∷ ks) (Obj (Some x) ∷ args) s n p = (
  one_plain tables k x s.0.0 s.0.1.1 (n 0 kinds.Int (omega arith)) (p 0 kinds.Int (omega arith)),
  all_plain tables version ks args s.1 (All-tail NamedKind k ks n) (All-tail (PlainKind tables) k ks p),
)
all_plain tables version (k ∷ ks) (a ∷ args) s n p =
    all_plain tables version ks args s.1 (All-tail NamedKind k ks n) (All-tail (PlainKind tables) k ks p)

-- no request names an object that an event ends
pub objects_last : (tables : List Interface) (m : Message Known) (f : FitsSignature tables Request m) → Valid tables
    → Each (λ x. by_event tables x.born ≡ false) (objects m.args)
objects_last tables m f v = all_plain tables m.target.born.version f.signature.kinds m.args f.args
    (v.no_any_in_requests m.target.born.iface.0 m.opcode f.signature f.there)
    (v.race_free.no_arguments m.target.born.iface.0 m.opcode f.signature f.there)

is_display : (here : Rows Row) (x : Known) → HasDisplay here → OpenRow here x → x.id ≡ 1 → x.born ≡ display_born
is_display here x h there one =
    let both : Some (Open x.born) ≡ Some (Open display_born) = sym there ∙ ap here.rows one ∙ h in
    cc both

-- no request destroys wl_display
pub request_mortal : (tables : List Interface) (here : Rows Row) (m : Message Known)
    (f : FitsSignature tables Request m) → Valid tables → HasDisplay here → OpenRow here m.target
    → Each (OpenRow here) (objects m.args) → IfThere Mortal m.ends
request_mortal tables here m f v h target args =
    subst (IfThere Mortal) (sym f.ends) (by_what f.signature.destroys refl)
  where
    by_what : (what : Destroys) → f.signature.destroys ≡ what → IfThere Mortal (ended_by what m.target m.args)
    by_what Nothing d = tt
    by_what Target d = λ one. (
        let own : signature_at tables 0 Request m.opcode ≡ Some f.signature =
        ap (λ (b : Born). signature_at tables b.iface.0 Request m.opcode) (sym (is_display here m.target h target one))
        ∙ f.there in
        let no : true ≡ false = sym (ap destroys_target d) ∙ display_lasts tables v m.opcode f.signature own in
        cc no
        )
    by_what (ends_arg k) d =
        let a = argument_is tables Request m f k v d in
        let there : OpenRow here a.1.object =
        (subst (λ (l : List (Arg Known)). Each (OpenRow here) (objects l)) a.1.are args).0 in
        let mortal : Mortal a.1.object = λ one. (
        let no : 1 ≡ 0 = sym a.1.registers ∙ ap (λ (b : Born). b.iface.0) (is_display here a.1.object h there one) in
        cc no
        ) in
        subst (λ (l : List (Arg Known)). IfThere Mortal (object_at l k)) (sym a.1.are)
        (subst (λ (z : ℕ). IfThere Mortal (object_at (Obj (Some a.1.object) ∷ []) z)) (sym a.0) mortal)

-- ---- events

-- an object that an event ends has an interface with a destroying event
pub event_ends : (tables : List Interface) (m : Message Known) (f : FitsSignature tables event_side m) → Valid tables
    → IfThere (λ x. by_event tables x.born ≡ true) m.ends
event_ends tables m f v =
    subst (IfThere (λ x. by_event tables x.born ≡ true)) (sym f.ends) (by_what f.signature.destroys refl)
  where
    by_what : (what : Destroys) → f.signature.destroys ≡ what
        → IfThere (λ x. by_event tables x.born ≡ true) (ended_by what m.target m.args)
    by_what Nothing d = tt
    by_what Target d = ends_so tables m.target.born m.opcode f.signature f.there (ap destroys_target d)
    by_what (ends_arg k) d =
        let no : true ≡ false = sym (ap destroys_argument d)
        ∙ ends_no_argument tables m.target.born.iface.0 m.opcode f.signature v f.there in
        absurd (cc no)

made_if : (P : Iface → Type 0) (o : Option Known) (new : Option NewObject) → new ≡ option_map made_of o
    → ((n : NewObject) → new ≡ Some n → P n.iface) → IfThere (λ x. P x.born.iface) o
made_if P None new e f = tt
made_if P (Some x) new e f = f (made_of x) e

-- the rule for objects that events make
pub event_makes : (tables : List Interface) (m : Message Known) (f : FitsSignature tables event_side m) → Valid tables
    → IfThere (λ x. IsMadeByEvent tables x.born.iface) (made_in m.args)
event_makes tables m f v =
    made_if (IsMadeByEvent tables) (made_in m.args)
    (made tables m.target.born.version f.signature.kinds (map wire m.args))
    (made_read tables m.target.born.version f.signature.kinds m.args f.args)
    (λ n e. made_by_event tables v m.target.born.iface.0 m.opcode m.target.born.version f.signature (map wire m.args) n
    f.there e)

-- an object that ends by an event is not wl_display
pub there_mortal : (tables : List Interface) (server : Rows Born) (x : Known) → Valid tables
    → server.rows 1 ≡ Some display_born → ThereRow server x → by_event tables x.born ≡ true → Mortal x
there_mortal tables server x v h there t one =
    let both : Some x.born ≡ Some display_born = sym there ∙ ap server.rows one ∙ h in
    let same : x.born ≡ display_born = cc both in
    let no : true ≡ false = sym t ∙ ap (by_event tables) same ∙ display_plain tables v in
    cc no

-- and was made by the client
pub there_client : (tables : List Interface) (server : Rows Born) (x : Known) → MadePlain (by_event tables) server
    → ThereRow server x → by_event tables x.born ≡ true → OfClient x
there_client tables server x plain there t = elim (cases_Bool (is_of_server x.id)) [
  | inl l ↦ (let no = (plain x.id x.born l there).0 in absurd (cc (no, t)))
  | inr l ↦ l
]
