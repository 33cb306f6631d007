-- What was advertised stays advertised, and a bind of it is no bad bind.
use Rattle.std.proofs.Common.{◌≡◌, ℕ, zero, suc, ◌≤◌, Bool, true, false, List, [], ◌∷◌, map, refl}
use Rattle.std.proofs.Common.{sym, ap, subst, ◌∙◌, arith}
use Rattle.std.specs.Prelude.{Option, option_map, not, ◌&&◌, ◌||◌, nat_le, bytes_eq}
use Rattle.std.specs.declared.option.Option.TheVariants.{None, Some}
use Rattle.std.proofs.lemmas.Bool.{and_parts}
use Rattle.std.proofs.lemmas.Bool.Decides.{nat_tests}
use Rattle.wl_wire.specs.declared.kind.Kind.{Kind}
use Rattle.wl_wire.specs.declared.kind.Kind.TheVariants as kinds
use Rattle.wl_wire.specs.declared.kind.Iface.{Iface}
use Rattle.wl_wire.specs.Argument.{Uint, NewNamed}
use Rattle.wl_sigs.specs.Side.TheVariants.{Request}
use Rattle.wl_sigs.specs.Tables.{Interface, interface_at, place_of}
use Rattle.wl_sigs.specs.Fixed.{display, registry}
use Rattle.wl_sigs.specs.Valid.{Valid}
use Rattle.wl_object_map.specs.declared.object.Entry.{Entry}
use Rattle.wl_objects.specs.Messages.{NewObject, made, made_by, is_bind, same_iface}
use Rattle.wl_client.specs.declared.globals.Global.{Global as Remembered}
use Rattle.wl_server.specs.State.{Global, global_of}
use Rattle.wl_server.specs.Requests.{was_advertised as bind_fits, name_fits}
use Rattle.wl_server.specs.Calls.{version_in}
use Rattle.wl_recording.specs.declared.piece.Direction.TheVariants.{ToServer}
use Rattle.wl_check.specs.Changes.{first_number}
use Rattle.wl_check.specs.Places.{KnownAtPlace as Knows}
use Rattle.wl_check.specs.Rules.{version_of, allows_bind as may_bind, is_disallowed_bind}
use Rattle.theory_connection.specs.Meant.{Known, Message, Coming, Event, Delete, Arg, made_in, wire}
use Rattle.theory_connection.specs.World.{Each, IfThere}
use Rattle.theory_connection.specs.Stands.{SuitKinds, AsksFitly, IsGlobal}
use Rattle.theory_connection.proofs.Announces.{each_get}
use Rattle.theory_connection.proofs.Places.{place_there, bytes_same}
use Rattle.theory_connection.proofs.ReadAsMeant.{made_of, made_read}
use Rattle.theory_connection.proofs.WholeInFlight.{each_by}
use Rattle.theory_recording.specs.Follows.{IsAdvertised, TellsAdvertised, BindsAdvertised}
use Rattle.theory_recording.proofs.JudgedAsMeant.{call_as}

-- ---- what is advertised stays advertised

-- the advertised version of a global never falls
abbrev pub Grows : Knows → Knows → Type 0
Grows k k' = (name iface : ℕ) → k.advertised_version name iface ≤ k'.advertised_version name iface

-- each global that the client remembers is still advertised
pub remembers_on : (k k' : Knows) → Grows k k' → (gs : List Remembered)
    → Each (λ g. IsAdvertised k g.name g.iface.0 g.version) gs
    → Each (λ g. IsAdvertised k' g.name g.iface.0 g.version) gs
remembers_on k k' grows gs h =
    each_by (λ (g : Remembered). IsAdvertised k g.name g.iface.0 g.version)
    (λ (g : Remembered). IsAdvertised k' g.name g.iface.0 g.version)
    (λ g l. (let m = grows g.name g.iface.0 in omega (arith, l, m))) gs h

tells_one : (tables : List Interface) (k k' : Knows) → Grows k k' → (c : Coming Known) → TellsAdvertised tables k c
    → TellsAdvertised tables k' c
tells_one tables k k' grows (Event m) h = λ is name version text iface args place.
    (let l = h is name version text iface args place in let more = grows name iface.0 in omega (arith, l, more))
tells_one tables k k' grows (Delete x) h = tt

-- each global that is announced is still advertised
pub tells_on : (tables : List Interface) (k k' : Knows) → Grows k k' → (cs : List (Coming Known))
    → Each (TellsAdvertised tables k) cs → Each (TellsAdvertised tables k') cs
tells_on tables k k' grows cs h = each_by (TellsAdvertised tables k) (TellsAdvertised tables k')
    (tells_one tables k k' grows) cs h

binds_one : (k k' : Knows) → Grows k k' → (m : Message Known) → BindsAdvertised k m → BindsAdvertised k' m
binds_one k k' grows m h = λ is name x first made.
    (let l = h is name x first made in let more = grows name x.born.iface.0 in omega (arith, l, more))

-- each global that a request in flight binds is still advertised
pub binds_on : (k k' : Knows) → Grows k k' → (ms : List (Message Known)) → Each (BindsAdvertised k) ms
    → Each (BindsAdvertised k') ms
binds_on k k' grows ms h = each_by (BindsAdvertised k) (BindsAdvertised k') (binds_one k k' grows) ms h

-- ---- a bind in flight

global_at : (tables : List Interface) (given : List Global) (name : ℕ) (g : Global) → Each (IsGlobal tables) given
    → global_of given name ≡ Some g → IsGlobal tables g
global_at tables given zero g a e = absurd (cc)
global_at tables given (suc place) g a e = each_get (IsGlobal tables) given place g a e

-- the interface that a bind names, and its version
pub record IsNamed (tables : List Interface) (iface : List ℕ) (version : ℕ) (new : Known) : Type 0 where
  pub place : place_of tables iface ≡ Some new.born.iface
  pub version_is : version ≡ new.born.version

named_by : (tables : List Interface) (iface : List ℕ) (version : ℕ) (new : Known) (o : Option Iface)
    → place_of tables iface ≡ o
    → option_map (λ (i : Iface). record { id = new.id; iface = i; version = version }) o ≡ Some (made_of new)
    → IsNamed tables iface version new
named_by tables iface version new None p h = absurd (cc h)
named_by tables iface version new (Some i) p h =
    let e : record { id = new.id; iface = i; version = version } ≡ made_of new = cc h in
    record { place = p ∙ ap (λ (m : NewObject). Some m.iface) e; version_is = ap (λ (m : NewObject). m.version) e }

named_as : (tables : List Interface) (target : ℕ) (kind : Kind) (iface : List ℕ) (version : ℕ) (new : Known)
    → made_by tables target kind (NewNamed iface version new.id) ≡ Some (made_of new)
    → IsNamed tables iface version new
named_as tables target (kinds.New None) iface version new h =
    named_by tables iface version new (place_of tables iface) refl h
named_as tables target (kinds.New (Some i)) iface version new h = absurd (cc h)
named_as tables target kind iface version new h = absurd (cc h)

named_in : (tables : List Interface) (target name : ℕ) (iface : List ℕ) (version : ℕ) (new : Known) (ks : List Kind)
    → SuitKinds tables target ks (Uint name ∷ NewNamed iface version new ∷ [])
    → IsNamed tables iface version new
named_in tables target name iface version new [] h = absurd h
named_in tables target name iface version new (a ∷ []) h = absurd h.1
named_in tables target name iface version new (a ∷ (b ∷ ks)) h = named_as tables target b iface version new h.1.0.1

-- a version that may be bound is at most that of the interface in the tables
bound_as : (tables : List Interface) (iface : List ℕ) (version : ℕ) (new : Known) (g : Global) (o : Option Interface)
    → Valid tables → IsGlobal tables g → IsNamed tables iface version new
    → interface_at tables g.iface.0 ≡ o → name_fits iface o && (nat_le 1 version && nat_le version g.version) ≡ true
    → new.born.version ≤ version_of tables new.born.iface
bound_as tables iface version new g None v c n there h = absurd (cc h)
bound_as tables iface version new g (Some i) v c n there h =
    let fits = and_parts (bytes_eq i.name iface) (nat_le 1 version && nat_le version g.version) h in
    let named : i.name ≡ iface = bytes_same i.name iface fits.0 in
    let place : place_of tables iface ≡ Some g.iface =
    ap (place_of tables) (sym named) ∙ place_there tables v g.iface i there in
    let same : new.born.iface ≡ g.iface = cc (n.place, place) in
    let low : version ≤ g.version = (let l = (and_parts (nat_le 1 version) (nat_le version g.version) fits.1).1
    in grind (arith, nat_tests)) in
    let can : version_in g.version (interface_at tables g.iface.0) ≡ true =
    (and_parts (not (same_iface g.iface display || same_iface g.iface registry))
    (version_in g.version (interface_at tables g.iface.0)) c.can_be).1 in
    let can_some : nat_le 1 g.version && nat_le g.version i.version ≡ true =
    ap (version_in g.version) (sym there) ∙ can in
    let high : g.version ≤ i.version = (let l = (and_parts (nat_le 1 g.version) (nat_le g.version i.version) can_some).1
    in grind (arith, nat_tests)) in
    let there_new : interface_at tables new.born.iface.0 ≡ Some i =
    ap (λ (x : Iface). interface_at tables x.0) same ∙ there in
    let is : version_of tables new.born.iface ≡ i.version = rw there_new refl in
    omega (arith, low, high, is, n.version_is)

bound_in : (tables : List Interface) (given : List Global) (name : ℕ) (iface : List ℕ) (version : ℕ) (new : Known)
    (o : Option Global) → Valid tables → Each (IsGlobal tables) given → IsNamed tables iface version new
    → global_of given name ≡ o → bind_fits tables iface version o ≡ true
    → new.born.version ≤ version_of tables new.born.iface
bound_in tables given name iface version new None v c n there h = absurd (cc h)
bound_in tables given name iface version new (Some g) v c n there h =
    bound_as tables iface version new g (interface_at tables g.iface.0) v
    (global_at tables given name g c there) n refl h

fine_bind : (tables : List Interface) (k : Knows) (name : ℕ) (new : Known) → 1 ≤ new.born.version
    → new.born.version ≤ version_of tables new.born.iface
    → new.born.version ≤ k.advertised_version name new.born.iface.0
    → may_bind tables k (Some name) (Some (made_of new)) ≡ true
fine_bind tables k name new a b c =
    let x : nat_le 1 new.born.version ≡ true = grind (arith, nat_tests) in
    let y : nat_le new.born.version (version_of tables new.born.iface) ≡ true = grind (arith, nat_tests) in
    let z : nat_le new.born.version (k.advertised_version name new.born.iface.0) ≡ true = grind (arith, nat_tests) in
    rw (x, y, z) refl

bad_bind_at : (tables : List Interface) (given : List Global) (k : Knows) (m : Message Known) (entry : Entry)
    (fit : AsksFitly tables given m) (b : Bool) → Valid tables → Each (IsGlobal tables) given
    → entry.iface ≡ m.target.born.iface → entry.version ≡ m.target.born.version → BindsAdvertised k m
    → is_bind Request entry.iface m.opcode ≡ b
    → is_disallowed_bind tables k Request m.opcode (call_as ToServer m entry fit.fits.signature).received ≡ false
bad_bind_at tables given k m entry fit false v c iface version told is = rw is refl
bad_bind_at tables given k m entry fit true v c iface version told is =
    let f = fit.fits in
    let bind : is_bind Request m.target.born.iface m.opcode ≡ true =
    ap (λ (i : Iface). is_bind Request i m.opcode) (sym iface) ∙ is in
    let g = fit.binds bind in
    let first : first_number (map wire m.args) ≡ Some g.name =
    ap (λ (args : List (Arg Known)). first_number (map wire args)) g.args_are in
    let new : made_in m.args ≡ Some g.new = ap made_in g.args_are in
    let makes : made tables entry.version f.signature.kinds (map wire m.args) ≡ Some (made_of g.new) =
    ap (λ (n : ℕ). made tables n f.signature.kinds (map wire m.args)) version
    ∙ made_read tables m.target.born.version f.signature.kinds m.args f.args ∙ ap (option_map made_of) new in
    let named = named_in tables m.target.born.version g.name g.iface g.version g.new f.signature.kinds
    (subst (SuitKinds tables m.target.born.version f.signature.kinds) g.args_are f.args) in
    let low : 1 ≤ g.new.born.version = subst (IfThere (λ (x : Known). 1 ≤ x.born.version)) new f.new_version in
    let high = bound_in tables given g.name g.iface g.version g.new
    (global_of given g.name) v c named refl g.was_given in
    let may = fine_bind tables k g.name g.new low high (told bind g.name g.new first new) in
    rw (is, first, makes, may) refl

-- a bind that fits, of a global that was advertised, is no bad bind
pub no_bad_bind : (tables : List Interface) (given : List Global) (k : Knows) (m : Message Known) (entry : Entry)
    (fit : AsksFitly tables given m) → Valid tables → Each (IsGlobal tables) given
    → entry.iface ≡ m.target.born.iface → entry.version ≡ m.target.born.version → BindsAdvertised k m
    → is_disallowed_bind tables k Request m.opcode (call_as ToServer m entry fit.fits.signature).received ≡ false
no_bad_bind tables given k m entry fit v c iface version told =
    bad_bind_at tables given k m entry fit (is_bind Request entry.iface m.opcode) v c iface version told refl
