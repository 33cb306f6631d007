-- The server accepts each bind that the checker accepts.
use Rattle.std.proofs.Common.{◌≡◌, ℕ, ◌+◌, ◌-◌, ◌≤◌, Bool, true, false, List, [], ◌∷◌, map}
use Rattle.std.proofs.Common.{drop, take, refl, sym, ap, subst, ◌∙◌, arith}
use Rattle.std.specs.Prelude.{◌&&◌, bytes_eq, codes, nat_eq, nat_le, not, option_map}
use Rattle.std.specs.declared.option.Option.{Option}
use Rattle.std.specs.declared.option.Option.TheVariants.{None, Some}
use Rattle.std.proofs.lemmas.Bool.{and_parts, eqb-true}
use Rattle.std.proofs.lemmas.Bool.Decides.{nat_tests}
use Rattle.wl_wire.specs.declared.kind.Kind.TheVariants as kinds
use Rattle.wl_wire.specs.declared.kind.Iface.{Iface}
use Rattle.wl_wire.specs.Argument.{Argument}
use Rattle.wl_wire.specs.Spelling.{is_named, is_uint}
use Rattle.wl_sigs.specs.Side.TheVariants.{Request}
use Rattle.wl_sigs.specs.Destroys.TheVariants.{Nothing}
use Rattle.wl_sigs.specs.Fixed as fixed
use Rattle.wl_sigs.specs.Tables.{Interface, MessageSignature, interface_at, place_of, signature_at}
use Rattle.wl_sigs.specs.Valid.{Valid}
use Rattle.wl_sigs.proofs.Lookups.{named}
use Rattle.wl_objects.specs.Messages.{NewObject, is_bind, made, or_else}
use Rattle.wl_objects.specs.Spelling.{SpellsAll}
use Rattle.wl_objects.specs.Spelling as spelling
use Rattle.wl_server.specs.Requests.{is_good_bind_of, name_fits, was_advertised}
use Rattle.wl_server.specs.State.{Global, global_of}
use Rattle.wl_check.specs.Changes.{Call, first_number}
use Rattle.wl_check.specs.Places.{KnownAtPlace as Knows}
use Rattle.wl_check.specs.Rules.{allows_bind, is_disallowed_bind, version_of}
use Rattle.wl_check.specs.Session.{Judged}
use Rattle.theory_connection.specs.Meant.{Born, Coming, Known, Message, wire}
use Rattle.theory_connection.specs.Flight.{Rows}
use Rattle.theory_connection.proofs.Places.{bytes_self}
use Rattle.theory_recording.specs.Follows.{knowledge}
use Rattle.theory_peers.specs.AcceptedRequest.{IsAcceptedRequest, asked_as}
use Rattle.theory_peers.specs.AnnouncedGlobals.{AnnouncesOnly}
use Rattle.theory_peers.specs.ServerRun.{ServerRun}
use Rattle.theory_peers.proofs.AcceptedIsAsked.{asked_by}
use Rattle.theory_peers.proofs.AnnouncedGlobals.{run_adds}
use Rattle.theory_peers.proofs.JudgedRequests.{judged_as}
use Rattle.theory_peers.proofs.RunOfServer.{run_follows}
use Rattle.theory_peers.proofs.ServerReads.{spelled_by}
use Rattle.theory_peers.specs.AnnouncedGlobals.{KnowsAdded}

-- the interface with a name has that name
name_right : (tables : List Interface) (text : List ℕ) (iface : Iface) → place_of tables text ≡ Some iface
    → name_fits text (interface_at tables iface.0) ≡ true
name_right tables text iface there =
    let n = named tables text iface there in
    ap (name_fits text) n.at ∙ ap (λ (name : List ℕ). bytes_eq name text) n.same ∙ bytes_self text

-- the values of a bind that the checker allows are those of a good one
good_values : (tables : List Interface) (k : Knows) (given : List Global) (version : ℕ) {values : List Argument}
    {body : List ℕ} → KnowsAdded given k → SpellsAll (kinds.Uint ∷ kinds.New None ∷ []) values body
    → allows_bind tables k (first_number values)
    (made tables version (kinds.Uint ∷ kinds.New None ∷ []) values) ≡ true
    → is_good_bind_of tables given values ≡ true
good_values tables k given version added
    (spelling.more (is_uint {n = name} f e)
    (spelling.more (is_named {iface = text} {version = own} {id = id} s v i d) (spelling.none n) p) q) allows =
    by_place (place_of tables text) refl allows
  where
    by_place : (o : Option Iface) → place_of tables text ≡ o
        → allows_bind tables k (Some name) (or_else (option_map (λ (iface : Iface). let new : NewObject = record {
          id = id;
          iface = iface;
          version = own;
        } in new) o) None) ≡ true
        → was_advertised tables text own (global_of given name) ≡ true
    by_place None there h = absurd (cc h)
    by_place (Some iface) there h =
        let parts = and_parts (nat_le 1 own && nat_le own (version_of tables iface))
        (nat_le own (k.advertised_version name iface.0)) h in
        let least = (and_parts (nat_le 1 own) (nat_le own (version_of tables iface)) parts.0).0 in
        let known = parts.1 in
        let one : 1 ≤ k.advertised_version name iface.0 = grind (arith, nat_tests, least, known) in
        let a = added name iface.0 one in
        let within = a.within in
        let high : nat_le own a.global.version ≡ true = grind (arith, nat_tests, known, within) in
        let fits : name_fits text (interface_at tables a.global.iface.0) ≡ true =
        ap (λ (place : ℕ). name_fits text (interface_at tables place)) a.iface_is ∙ name_right tables text iface there in
        ap (was_advertised tables text own) a.there ∙ rw (fits, least, high) refl

by_tests : (a b : Bool) → a ≡ true → a && not b ≡ false → b ≡ true
by_tests true true t h = refl
by_tests true false t h = absurd (cc h)
by_tests false b t h = absurd (cc t)

-- an accepted bind is of a global that the server added, at a version that it has
pub good_bind : (limit : ℕ) (tables : List Interface) (given : List Global) (e : List Judged)
    (asked : List (Message Known)) (told : List (Coming Known)) (server : Rows Born) (call : Call) → Valid tables
    → (run : ServerRun limit tables e asked told server) → AnnouncesOnly given run → IsAcceptedRequest limit tables e call
    → is_bind Request call.received.entry.iface call.opcode ≡ true
    → is_good_bind_of tables given call.received.values ≡ true
good_bind limit tables given e asked told server call v run only c bind =
    let k = knowledge tables e in
    let f = run_follows limit tables e asked told server v run in
    let added = (run_adds limit tables given e asked told server v run only).known in
    let j = judged_as limit tables k c.stream c.place c.size c.tokens call c.is in
    let asked_is = asked_by limit tables e f.here call v f.known_as c in
    let s = spelled_by limit tables e f.here call v f.known_as c in
    let body = take (c.size - 8) (drop (c.place + 8) c.stream) in
    let parts = and_parts (nat_eq call.received.entry.iface.0 1) (nat_eq call.opcode 0) bind in
    let iface_is : call.received.entry.iface.0 ≡ 1 = eqb-true call.received.entry.iface.0 1 parts.0 in
    let opcode_is : call.opcode ≡ 0 = eqb-true call.opcode 0 parts.1 in
    let bind_is : signature_at tables call.received.entry.iface.0 Request call.opcode
    ≡ Some (fixed.message (codes "bind") 1 (fixed.uint ∷ fixed.new None ∷ []) Nothing) =
    (λ i. signature_at tables (iface_is i) Request (opcode_is i)) ∙ rw v.fixed_four.registry refl in
    let read_is : signature_at tables call.received.entry.iface.0 Request call.opcode
    ≡ Some call.received.signature =
    ap (λ (x : Call). signature_at tables x.received.entry.iface.0 Request x.opcode) j.call_is ∙ j.read.there
    ∙ ap (λ (x : Call). Some x.received.signature) (sym j.call_is) in
    let both : Some call.received.signature
    ≡ Some (fixed.message (codes "bind") 1 (fixed.uint ∷ fixed.new None ∷ []) Nothing) = sym read_is ∙ bind_is in
    let signature_is : call.received.signature
    ≡ fixed.message (codes "bind") 1 (fixed.uint ∷ fixed.new None ∷ []) Nothing = cc both in
    let spelled_both : Some s.signature ≡ Some call.received.signature = sym s.there ∙ read_is in
    let spelled_same : s.signature ≡ call.received.signature = cc spelled_both in
    let values : call.received.values ≡ map wire (asked_as tables e call).args =
    ap (λ (x : Call). x.received.values) asked_is.call_is in
    let spelled : SpellsAll (kinds.Uint ∷ kinds.New None ∷ []) call.received.values body =
    subst (λ (x : MessageSignature). SpellsAll x.kinds call.received.values body) (spelled_same ∙ signature_is)
    (subst (λ (vs : List Argument). SpellsAll s.signature.kinds vs body) (sym values) s.spelled) in
    let fine : is_disallowed_bind tables k Request call.opcode call.received ≡ false =
    ap (λ (x : Call). is_disallowed_bind tables k Request x.opcode x.received) j.call_is ∙ j.binds in
    let allows : allows_bind tables k (first_number call.received.values)
    (made tables call.received.entry.version call.received.signature.kinds call.received.values) ≡ true =
    by_tests (is_bind Request call.received.entry.iface call.opcode)
    (allows_bind tables k (first_number call.received.values)
    (made tables call.received.entry.version call.received.signature.kinds call.received.values)) bind fine in
    good_values tables k given call.received.entry.version added spelled
    (subst (λ (x : MessageSignature). allows_bind tables k (first_number call.received.values)
    (made tables call.received.entry.version x.kinds call.received.values) ≡ true) signature_is allows)
