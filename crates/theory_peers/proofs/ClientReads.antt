-- The client reads a recorded event as the checker did.
use Rattle.std.proofs.Common.{◌≡◌, ℕ, suc, ◌+◌, ◌-◌, ◌<◌, Bool, true, false, List, [], ◌∷◌, take, drop, map, refl, sym}
use Rattle.std.proofs.Common.{ap, subst, ◌∙◌, arith}
use Rattle.std.specs.Prelude.{nat_eq, nat_lt}
use Rattle.std.specs.declared.option.Option.{Option}
use Rattle.std.specs.declared.option.Option.TheVariants.{None, Some}
use Rattle.std.specs.declared.result.Result.TheVariants.{Ok}
use Rattle.std.proofs.lemmas.Bool.{le-ltb, ltb-false, ne_eqb}
use Rattle.std.proofs.lemmas.List.Elements.{All-drop, All-take}
use Rattle.wl_wire.specs.declared.header.Header.{Header}
use Rattle.wl_wire.specs.declared.kind.Kind.{Kind}
use Rattle.wl_wire.specs.declared.kind.Kind.TheVariants as kinds
use Rattle.wl_wire.specs.declared.kind.Iface.{Iface}
use Rattle.wl_wire.specs.Argument.{Argument, New, NewNamed, Obj}
use Rattle.wl_wire.specs.Spelling.{Spells}
use Rattle.wl_wire.specs.Word.{header_at}
use Rattle.wl_sigs.specs.Side.TheVariants.{Event}
use Rattle.wl_sigs.specs.Tables.{Interface, MessageSignature, descriptors, signature_at}
use Rattle.wl_sigs.specs.Valid.{Valid}
use Rattle.wl_object_map.specs.declared.object.Entry.{Entry}
use Rattle.wl_object_map.specs.declared.object.Object.{Object}
use Rattle.wl_object_map.specs.Objects.{Objects}
use Rattle.wl_objects.specs.declared.lookup.NewId.TheVariants.{Free}
use Rattle.wl_objects.specs.Messages.{is_error, reader_of, received}
use Rattle.wl_objects.specs.Reading.{Reader, arguments_at, forgiving, forgiving_kind, has_required_iface, iface_of}
use Rattle.wl_objects.specs.Reading.{new_fault, value_fault}
use Rattle.wl_objects.specs.Spelling.{MeetsKinds, SpellsAll}
use Rattle.wl_objects.specs.Spelling as spelling
use Rattle.wl_objects.proofs.ArgumentsMeet.{meets-read, met}
use Rattle.wl_objects.proofs.Wholes.{meets-spelled}
use Rattle.wl_client.specs.declared.globals.Global.{Global}
use Rattle.wl_recording.specs.declared.piece.Direction.TheVariants.{ToClient}
use Rattle.wl_check.specs.Changes.{Call}
use Rattle.wl_check.specs.Rules.{reader_by}
use Rattle.wl_check.specs.Session.{Judged}
use Rattle.theory_connection.specs.Meant.{Arg, Born, Known, Message, live_entry, new_object_in, objects, wire}
use Rattle.theory_connection.specs.World.{Each, IfThere, Row}
use Rattle.theory_connection.specs.Flight.{IsHeldInRows, Rows, client_rows}
use Rattle.theory_connection.specs.Stands.{NamesRightly, SuitKinds}
use Rattle.theory_connection.proofs.EndedObject.{if_by}
use Rattle.theory_connection.proofs.FoundInFront.{news_told}
use Rattle.theory_connection.proofs.MadeFor.{MadeFor, made_for}
use Rattle.theory_connection.proofs.ReadAsMeant.{Finds, FreeAt, HasObject}
use Rattle.theory_connection.proofs.RowsAfterMessage.{held_row}
use Rattle.theory_connection.proofs.WholeInFlight.{each_by}
use Rattle.theory_recording.specs.Follows.{KnownAs, birth_places, knowledge}
use Rattle.theory_recording.proofs.JudgedAsMeant.{all_found}
use Rattle.theory_peers.specs.AcceptedEvent.{IsAcceptedEvent, ServerMessage, told_as}
use Rattle.theory_peers.specs.FollowsClient.{FollowsClient}
use Rattle.theory_peers.specs.ReadByClient.{IsReadByClient, SpellsEvent}
use Rattle.theory_peers.proofs.AcceptedArguments.{plain_kind}
use Rattle.theory_peers.proofs.AcceptedIsTold.{told_by}
use Rattle.theory_peers.proofs.ClientMoves.{takes_at}
use Rattle.theory_peers.proofs.JudgedEvents.{event_judged_as}

-- ---- an accepted event spells its message

plain_kinds : (ks : List Kind) → map (forgiving_kind false) ks ≡ ks
plain_kinds [] = refl
plain_kinds (kind ∷ ks) = λ i. plain_kind kind i ∷ plain_kinds ks i

pub event_spelled_by : (limit : ℕ) (tables : List Interface) (e : List Judged) (here : Rows Row) (call : Call)
    → Valid tables → KnownAs (knowledge tables e) (birth_places tables e) here → (c : IsAcceptedEvent limit tables e call)
    → SpellsEvent tables (told_as tables e call).event (header_at (drop c.place c.stream))
    (take (c.size - 8) (drop (c.place + 8) c.stream)) (c.tokens - (knowledge tables e).taken ToClient)
event_spelled_by limit tables e here call v a c =
    let k = knowledge tables e in
    let j = event_judged_as limit tables k c.stream c.place c.size c.tokens call c.is in
    let r = j.received in
    let m = (told_as tables e call).event in
    let header = header_at (drop c.place c.stream) in
    let body = take (c.size - 8) (drop (c.place + 8) c.stream) in
    let told = told_by limit tables e here call v a c in
    let values : r.values ≡ map wire m.args =
    ap (λ (x : Call). x.received.values) (sym j.call_is) ∙ ap (λ (x : Call). x.received.values) told.call_is in
    let goes : is_error Event r.entry.iface header.opcode ≡ false =
    ap (λ (x : Call). is_error Event x.received.entry.iface x.opcode) (sym j.call_is) ∙ c.goes_on in
    let arguments = ap (λ (b : Bool). arguments_at (forgiving b (reader_by tables k ToClient)) 0 r.signature.kinds body)
    (sym goes) ∙ j.read.arguments in
    let meets = met (reader_by tables k ToClient) 0 r.signature.kinds body r.values []
    (All-take (λ (b : ℕ). b < 256) (c.size - 8) (drop (c.place + 8) c.stream)
    (All-drop (λ (b : ℕ). b < 256) (c.place + 8) c.stream c.bytes)) arguments in
    let spelled : SpellsAll r.signature.kinds r.values body =
    subst (λ (ks : List Kind). SpellsAll ks r.values body) (plain_kinds r.signature.kinds) (meets-spelled meets refl) in
    record {
      object = sym (ap (λ (o : Object). o.id) j.read.target) ∙ ap (λ (x : Call). x.received.target.id) (sym j.call_is);
      opcode = ap (λ (x : Call). x.opcode) (sym j.call_is);
      signature = r.signature;
      there = ap (λ (x : Call). signature_at tables x.received.entry.iface.0 Event x.opcode) j.call_is ∙ j.read.there;
      spelled = subst (λ (vs : List Argument). SpellsAll r.signature.kinds vs body) values spelled;
      enough = ltb-false (c.tokens - k.taken ToClient) (descriptors r.signature.kinds) j.read.enough;
    }

-- ---- the client reads it

module _ (tables : List Interface) (view : Objects) where
  abbrev client_reader : Reader
  client_reader = reader_of tables Event view

  required : (iface : Option Iface) (entry : Entry) (b : Born) → entry.iface ≡ b.iface
      → has_required_iface iface (live_entry b) ≡ true → has_required_iface iface entry ≡ true
  required None entry b is h = refl
  required (Some iface) entry b is h = ap (λ (i : Iface). nat_eq iface.0 i.0) is ∙ h

  new_no_fault : (version place : ℕ) (kind : Kind) (x : Known) → MadeFor Event kind
      → NamesRightly tables version kind (New x) → Finds Event client_reader (New x)
      → value_fault client_reader place kind (wire (New x)) ≡ None
  new_no_fault version place (kinds.NewByServer iface) x m n f = ap (new_fault place) f
  new_no_fault version place (kinds.New iface) x m n f = absurd m
  new_no_fault version place kind x m n f = absurd (cc n)

  named_no_fault : (version place : ℕ) (kind : Kind) (name : List ℕ) (own : ℕ) (x : Known) → MadeFor Event kind
      → NamesRightly tables version kind (NewNamed name own x)
      → value_fault client_reader place kind (wire (NewNamed name own x)) ≡ None
  named_no_fault version place (kinds.New iface) name own x m n = absurd m
  named_no_fault version place kind name own x m n = absurd (cc n)

  no_fault : (version place : ℕ) (kind : Kind) (a : Arg Known) → MadeFor Event kind
      → NamesRightly tables version kind a → Finds Event client_reader a
      → value_fault client_reader place kind (wire a) ≡ None
  no_fault version place kind (Obj None) m n f = refl
  no_fault version place kind (Obj (Some x)) m n f =
      let some : nat_eq x.id 0 ≡ false = ne_eqb x.id 0 (λ h. omega (arith, n.0, h)) in
      let of = required (iface_of kind) f.entry x.born f.iface n.1 in
      rw (some, f.there, of) refl
  no_fault version place kind (New x) m n f = new_no_fault version place kind x m n f
  no_fault version place kind (NewNamed name own x) m n f = named_no_fault version place kind name own x m n
  no_fault version place kind a m n f = refl

  -- none of the values has a fault
  abbrev HaveNoFault : ℕ → List Kind → List Argument → Type 0
  HaveNoFault place (kind ∷ ks) (value ∷ values) =
      (value_fault client_reader place kind value ≡ None) × HaveNoFault (suc place) ks values
  HaveNoFault place _ _ = Unit {0}

  no_faults : (version place : ℕ) (ks : List Kind) (args : List (Arg Known)) → Each (MadeFor Event) ks
      → SuitKinds tables version ks args → Each (Finds Event client_reader) args
      → HaveNoFault place ks (map wire args)
  no_faults version place [] args m s f = tt
  no_faults version place (kind ∷ ks) [] m s f = tt
  no_faults version place (kind ∷ ks) (a ∷ args) m s f = (
    no_fault version place kind a m.0 s.0.1 f.0,
    no_faults version (suc place) ks args m.1 s.1 f.1,
  )

  meets_body : {place : ℕ} {ks : List Kind} {values : List Argument} {body : List ℕ} → SpellsAll ks values body
      → HaveNoFault place ks values → MeetsKinds client_reader place ks body values []
  meets_body {place} (spelling.none e) f =
      subst (λ (bytes : List ℕ). MeetsKinds client_reader place [] bytes [] []) (sym e) spelling.none
  meets_body {place} (spelling.more {kind = kind} {value = value} {front = front} s rest e) f =
      spelling.more (subst (λ (x : Kind). Spells x value front) (sym (plain_kind kind)) s) f.0 (meets_body rest f.1) e

  object_held : (x : Known) → IsHeldInRows (client_rows view) x → HasObject client_reader x
  object_held x h =
      let r = held_row view x h in
      record {
        entry = r.entry;
        there = r.there;
        iface = ap (λ (b : Born). b.iface) r.same;
        version = ap (λ (b : Born). b.version) r.same;
      }

pub read_by_client : (tables : List Interface) (e : List Judged) (asked : List (Message Known)) (s : ServerMessage)
    (told : List ServerMessage) (view : Objects) (remembered : List Global) (header : Header) (body : List ℕ)
    (waiting : ℕ) → Valid tables → FollowsClient tables e asked (s ∷ told) (client_rows view) remembered
    → SpellsEvent tables s.event header body waiting → IsReadByClient tables view s.event header body waiting
read_by_client tables e asked s told view remembered header body waiting v f p =
    let m = s.event in
    let fits = f.tells_fit.0.fits in
    let r = reader_of tables Event view in
    let t = (takes_at tables told (client_rows view) f.joins.common s f.joins.reads).event in
    let target = held_row view m.target t.target in
    let names = each_by (IsHeldInRows (client_rows view)) (HasObject r) (object_held tables view) (objects m.args) t.args in
    let news = each_by (λ (a : Arg Known). IfThere (FreeAt tables Event view) (new_object_in a))
    (λ (a : Arg Known). IfThere (λ x. r.new_server_id x.id ≡ Free) (new_object_in a))
    (λ a n. if_by {P = FreeAt tables Event view} {Q = λ (x : Known). r.new_server_id x.id ≡ Free} (λ x g. g.free)
    (new_object_in a) n) m.args (news_told tables view m.args m.args t.new fits.new_is) in
    let finds = all_found Event r m.args names news in
    let both : Some fits.signature ≡ Some p.signature = sym fits.there ∙ p.there in
    let same : fits.signature ≡ p.signature = cc both in
    let spelled : SpellsAll fits.signature.kinds (map wire m.args) body =
    subst (λ (x : MessageSignature). SpellsAll x.kinds (map wire m.args) body) (sym same) p.spelled in
    let none = no_faults tables view m.target.born.version 0 fits.signature.kinds m.args
    (made_for tables v m.target.born.iface.0 Event m.opcode fits.signature fits.there) fits.args finds in
    let args : arguments_at r 0 fits.signature.kinds body ≡ Ok (map wire m.args, []) =
    meets-read (meets_body tables view spelled none) in
    let row : r.object header.object ≡ Some target.entry = ap r.object p.object ∙ target.there in
    let sig : signature_at tables target.entry.iface.0 Event header.opcode ≡ Some fits.signature =
    ap (λ (b : Born). signature_at tables b.iface.0 Event header.opcode) target.same
    ∙ ap (signature_at tables m.target.born.iface.0 Event) p.opcode ∙ fits.there in
    let goes : is_error Event target.entry.iface header.opcode ≡ false =
    ap (λ (b : Born). is_error Event b.iface header.opcode) target.same
    ∙ ap (is_error Event m.target.born.iface) p.opcode ∙ fits.no_error in
    let version = ap (λ (b : Born). b.version) target.same in
    let old : nat_lt target.entry.version fits.signature.since ≡ false =
    le-ltb target.entry.version fits.signature.since (omega (arith, fits.old_enough, version)) in
    let tokens = ap (λ (x : MessageSignature). descriptors x.kinds) same in
    let enough : nat_lt waiting (descriptors fits.signature.kinds) ≡ false =
    le-ltb waiting (descriptors fits.signature.kinds) (omega (arith, p.enough, tokens)) in
    let object = p.object in
    record {
      entry = target.entry;
      there = target.there;
      same = target.same;
      named = t.args;
      signature = fits.signature;
      signed = fits.there;
      is = rw (row, sig, old, goes, args, enough, object) refl;
    }
