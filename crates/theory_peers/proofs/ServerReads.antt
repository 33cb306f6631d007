-- The server reads a recorded request as the checker did.
use Rattle.std.proofs.Common.{◌≡◌, ℕ, suc, ◌+◌, ◌-◌, ◌<◌, true, false, List, [], ◌∷◌, take, drop, map, refl, sym, ap}
use Rattle.std.proofs.Common.{subst, ◌∙◌, arith}
use Rattle.std.specs.Prelude.{nat_eq, nat_lt}
use Rattle.std.specs.declared.option.Option.{Option}
use Rattle.std.specs.declared.option.Option.TheVariants.{None, Some}
use Rattle.std.specs.declared.result.Result.TheVariants.{Ok}
use Rattle.std.proofs.lemmas.Bool.{le-ltb, ltb-false, ne_eqb}
use Rattle.std.proofs.lemmas.List.Elements.{All-drop, All-take}
use Rattle.wl_wire.specs.declared.header.Header.{Header}
use Rattle.wl_wire.specs.declared.kind.Kind.{Kind}
use Rattle.wl_wire.specs.declared.kind.Kind.TheVariants as kinds
use Rattle.wl_wire.specs.declared.kind.Iface.{Iface}
use Rattle.wl_wire.specs.Argument.{Argument, Obj, New, NewNamed}
use Rattle.wl_wire.specs.Spelling.{Spells}
use Rattle.wl_wire.specs.Word.{header_at}
use Rattle.wl_sigs.specs.Side.TheVariants.{Request}
use Rattle.wl_sigs.specs.Tables.{Interface, MessageSignature, descriptors, signature_at}
use Rattle.wl_sigs.specs.Valid.{Valid}
use Rattle.wl_object_map.specs.declared.object.Entry.{Entry}
use Rattle.wl_object_map.specs.declared.object.Object.{Object}
use Rattle.wl_object_map.specs.Objects.{Objects, ObjectsAreSound}
use Rattle.wl_objects.specs.declared.lookup.NewId.TheVariants.{Free}
use Rattle.wl_objects.specs.Messages.{reader_of}
use Rattle.wl_objects.specs.Reading.{Reader, arguments_at, forgiving_kind, has_required_iface, iface_of, new_fault, value_fault}
use Rattle.wl_objects.specs.Spelling.{MeetsKinds, SpellsAll}
use Rattle.wl_objects.specs.Spelling as spelling
use Rattle.wl_objects.proofs.ArgumentsMeet.{meets-read, met}
use Rattle.wl_objects.proofs.Wholes.{meets-spelled}
use Rattle.wl_recording.specs.declared.piece.Direction.TheVariants.{ToServer}
use Rattle.wl_check.specs.Changes.{Call}
use Rattle.wl_check.specs.Rules.{reader_by}
use Rattle.wl_check.specs.Session.{Judged}
use Rattle.theory_connection.specs.Meant.{Arg, Born, Coming, Known, Message, live_entry, new_object_in, objects}
use Rattle.theory_connection.specs.Meant.{wire}
use Rattle.theory_connection.specs.World.{Each, IfThere, Row}
use Rattle.theory_connection.specs.Flight.{Rows, server_rows}
use Rattle.theory_connection.specs.Stands.{NamesRightly, SuitKinds}
use Rattle.theory_connection.proofs.EndedObject.{if_by}
use Rattle.theory_connection.proofs.FoundInFront.{news_free}
use Rattle.theory_connection.proofs.MadeFor.{MadeFor, made_for}
use Rattle.theory_connection.proofs.ReadAsMeant.{Finds, FreeAt, HasObject}
use Rattle.theory_connection.proofs.RowsAfterMessage.{there_row}
use Rattle.theory_connection.proofs.WholeInFlight.{ThereRow, each_by}
use Rattle.theory_recording.specs.Follows.{KnownAs, birth_places, knowledge}
use Rattle.theory_recording.proofs.JudgedAsMeant.{all_found}
use Rattle.theory_peers.specs.AcceptedRequest.{IsAcceptedRequest, asked_as}
use Rattle.theory_peers.specs.FollowsServer.{FollowsServer}
use Rattle.theory_peers.specs.ReadByServer.{IsReadByServer, IsSpelledBy}
use Rattle.theory_peers.proofs.AcceptedArguments.{plain_kind}
use Rattle.theory_peers.proofs.AcceptedIsAsked.{asked_by}
use Rattle.theory_peers.proofs.JudgedRequests.{judged_as}
use Rattle.theory_peers.proofs.ServerMoves.{reads_one}

-- ---- an accepted request spells its message

plain_kinds : (ks : List Kind) → map (forgiving_kind false) ks ≡ ks
plain_kinds [] = refl
plain_kinds (kind ∷ ks) = λ i. plain_kind kind i ∷ plain_kinds ks i

pub spelled_by : (limit : ℕ) (tables : List Interface) (e : List Judged) (here : Rows Row) (call : Call)
    → Valid tables → KnownAs (knowledge tables e) (birth_places tables e) here → (c : IsAcceptedRequest limit tables e call)
    → IsSpelledBy tables (asked_as tables e call) (header_at (drop c.place c.stream))
    (take (c.size - 8) (drop (c.place + 8) c.stream)) (c.tokens - (knowledge tables e).taken ToServer)
spelled_by limit tables e here call v a c =
    let k = knowledge tables e in
    let j = judged_as limit tables k c.stream c.place c.size c.tokens call c.is in
    let r = j.received in
    let m = asked_as tables e call in
    let body = take (c.size - 8) (drop (c.place + 8) c.stream) in
    let asked = asked_by limit tables e here call v a c in
    let values : r.values ≡ map wire m.args =
    ap (λ (x : Call). x.received.values) (sym j.call_is) ∙ ap (λ (x : Call). x.received.values) asked.call_is in
    let meets = met (reader_by tables k ToServer) 0 r.signature.kinds body r.values []
    (All-take (λ (b : ℕ). b < 256) (c.size - 8) (drop (c.place + 8) c.stream)
    (All-drop (λ (b : ℕ). b < 256) (c.place + 8) c.stream c.bytes)) j.read.arguments in
    let spelled : SpellsAll r.signature.kinds r.values body =
    subst (λ (ks : List Kind). SpellsAll ks r.values body) (plain_kinds r.signature.kinds) (meets-spelled meets refl) in
    record {
      object = sym (ap (λ (o : Object). o.id) j.read.target) ∙ ap (λ (x : Call). x.received.target.id) (sym j.call_is);
      opcode = ap (λ (x : Call). x.opcode) (sym j.call_is);
      signature = r.signature;
      there = ap (λ (x : Call). signature_at tables x.received.entry.iface.0 Request x.opcode) j.call_is ∙ j.read.there;
      spelled = subst (λ (vs : List Argument). SpellsAll r.signature.kinds vs body) values spelled;
      enough = ltb-false (c.tokens - k.taken ToServer) (descriptors r.signature.kinds) j.read.enough;
    }

-- ---- the server reads it

module _ (tables : List Interface) (view : Objects) where
  abbrev server_reader : Reader
  server_reader = reader_of tables Request view

  required : (iface : Option Iface) (entry : Entry) (b : Born) → entry.iface ≡ b.iface
      → has_required_iface iface (live_entry b) ≡ true → has_required_iface iface entry ≡ true
  required None entry b is h = refl
  required (Some iface) entry b is h = ap (λ (i : Iface). nat_eq iface.0 i.0) is ∙ h

  no_fault : (version place : ℕ) (kind : Kind) (a : Arg Known) → MadeFor Request kind
      → NamesRightly tables version kind a → Finds Request server_reader a
      → value_fault server_reader place kind (wire a) ≡ None
  no_fault version place kind (Obj None) m n f = refl
  no_fault version place kind (Obj (Some x)) m n f =
      let some : nat_eq x.id 0 ≡ false = ne_eqb x.id 0 (λ h. omega (arith, n.0, h)) in
      let of = required (iface_of kind) f.entry x.born f.iface n.1 in
      rw (some, f.there, of) refl
  no_fault version place (kinds.NewByServer iface) (New x) m n f = absurd m
  no_fault version place kind (New x) m n f = ap (new_fault place) f
  no_fault version place kind (NewNamed name own x) m n f = ap (new_fault place) f
  no_fault version place kind a m n f = refl

  -- none of the values has a fault
  abbrev HaveNoFault : ℕ → List Kind → List Argument → Type 0
  HaveNoFault place (kind ∷ ks) (value ∷ values) =
      (value_fault server_reader place kind value ≡ None) × HaveNoFault (suc place) ks values
  HaveNoFault place _ _ = Unit {0}

  no_faults : (version place : ℕ) (ks : List Kind) (args : List (Arg Known)) → Each (MadeFor Request) ks
      → SuitKinds tables version ks args → Each (Finds Request server_reader) args
      → HaveNoFault place ks (map wire args)
  no_faults version place [] args m s f = tt
  no_faults version place (kind ∷ ks) [] m s f = tt
  no_faults version place (kind ∷ ks) (a ∷ args) m s f = (
    no_fault version place kind a m.0 s.0.1 f.0,
    no_faults version (suc place) ks args m.1 s.1 f.1,
  )

  meets_body : {place : ℕ} {ks : List Kind} {values : List Argument} {body : List ℕ} → SpellsAll ks values body
      → HaveNoFault place ks values → MeetsKinds server_reader place ks body values []
  meets_body {place} (spelling.none e) f =
      subst (λ (bytes : List ℕ). MeetsKinds server_reader place [] bytes [] []) (sym e) spelling.none
  meets_body {place} (spelling.more {kind = kind} {value = value} {front = front} s rest e) f =
      spelling.more (subst (λ (x : Kind). Spells x value front) (sym (plain_kind kind)) s) f.0 (meets_body rest f.1) e

  object_there : (x : Known) → ThereRow (server_rows view) x → HasObject server_reader x
  object_there x h =
      let r = there_row view x h in
      record {
        entry = r.entry;
        there = r.there;
        iface = ap (λ (b : Born). b.iface) r.same;
        version = ap (λ (b : Born). b.version) r.same;
      }

pub read_by_server : (tables : List Interface) (e : List Judged) (m : Message Known) (asked : List (Message Known))
    (told : List (Coming Known)) (view : Objects) (header : Header) (body : List ℕ) (waiting : ℕ) → Valid tables
    → ObjectsAreSound view → FollowsServer tables e (m ∷ asked) told (server_rows view)
    → IsSpelledBy tables m header body waiting → IsReadByServer tables view m header body waiting
read_by_server tables e m asked told view header body waiting v sound f s =
    let fits = f.asks_fit.0 in
    let r = reader_of tables Request view in
    let can = reads_one tables e m asked told (server_rows view) f in
    let target = there_row view m.target can.target in
    let names = each_by (ThereRow (server_rows view)) (HasObject r) (object_there tables view) (objects m.args) can.args in
    let news = each_by (λ (a : Arg Known). IfThere (FreeAt tables Request view) (new_object_in a))
    (λ (a : Arg Known). IfThere (λ x. r.new_id x.id ≡ Free) (new_object_in a))
    (λ a n. if_by {P = FreeAt tables Request view} {Q = λ (x : Known). r.new_id x.id ≡ Free} (λ x g. g.free)
    (new_object_in a) n) m.args (news_free tables view m.args m.args sound can.new fits.new_is) in
    let finds = all_found Request r m.args names news in
    let both : Some fits.signature ≡ Some s.signature = sym fits.there ∙ s.there in
    let same : fits.signature ≡ s.signature = cc both in
    let spelled : SpellsAll fits.signature.kinds (map wire m.args) body =
    subst (λ (x : MessageSignature). SpellsAll x.kinds (map wire m.args) body) (sym same) s.spelled in
    let none = no_faults tables view m.target.born.version 0 fits.signature.kinds m.args
    (made_for tables v m.target.born.iface.0 Request m.opcode fits.signature fits.there) fits.args finds in
    let args : arguments_at r 0 fits.signature.kinds body ≡ Ok (map wire m.args, []) =
    meets-read (meets_body tables view spelled none) in
    let row : r.object header.object ≡ Some target.entry = ap r.object s.object ∙ target.there in
    let sig : signature_at tables target.entry.iface.0 Request header.opcode ≡ Some fits.signature =
    ap (λ (b : Born). signature_at tables b.iface.0 Request header.opcode) target.same
    ∙ ap (signature_at tables m.target.born.iface.0 Request) s.opcode ∙ fits.there in
    let version = ap (λ (b : Born). b.version) target.same in
    let old : nat_lt target.entry.version fits.signature.since ≡ false =
    le-ltb target.entry.version fits.signature.since (omega (arith, fits.old_enough, version)) in
    let tokens = ap (λ (x : MessageSignature). descriptors x.kinds) same in
    let enough : nat_lt waiting (descriptors fits.signature.kinds) ≡ false =
    le-ltb waiting (descriptors fits.signature.kinds) (omega (arith, s.enough, tokens)) in
    let object = s.object in
    record {
      entry = target.entry;
      there = target.there;
      same = target.same;
      signature = fits.signature;
      signed = fits.there;
      is = rw (row, sig, old, args, enough, object) refl;
    }
