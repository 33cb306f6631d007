-- A request that the checker accepts is one that keeps the rules.
use Rattle.std.proofs.Common.{◌≡◌, ℕ, ◌+◌, ◌-◌, ◌<◌, ◌≤◌, Bool, true, false, List, [], ◌∷◌}
use Rattle.std.proofs.Common.{length, length-take, take, drop, inl, inr, refl, sym, ap, subst, ◌∙◌, arith}
use Rattle.std.specs.Prelude.{◌≢◌, ◌&&◌, ◌==◌, ◌%◌, codes, nat_le, not, option_map}
use Rattle.std.specs.List.{All}
use Rattle.std.specs.declared.option.Option.{Option}
use Rattle.std.specs.declared.option.Option.TheVariants.{None, Some}
use Rattle.std.proofs.lemmas.Bool.{and_parts, eq-eqb, ltb-false}
use Rattle.std.proofs.lemmas.Bool.Decides.{nat_tests}
use Rattle.std.proofs.lemmas.List.Elements.{All-drop, All-tail, All-take}
use Rattle.wl_wire.specs.declared.kind.Kind.{Kind}
use Rattle.wl_wire.specs.declared.kind.Kind.TheVariants as kinds
use Rattle.wl_wire.specs.declared.kind.Iface.{Iface}
use Rattle.wl_wire.specs.Argument.{Argument, NewNamed}
use Rattle.wl_wire.specs.Word.{header_at}
use Rattle.wl_wire.proofs.Numbers.{number_at_fits}
use Rattle.wl_sigs.specs.Side.TheVariants.{Request}
use Rattle.wl_sigs.specs.Destroys.TheVariants.{Nothing}
use Rattle.wl_sigs.specs.Fixed as fixed
use Rattle.wl_sigs.specs.Tables.{Interface, MessageSignature, place_of, signature_at}
use Rattle.wl_sigs.specs.Valid.{Valid}
use Rattle.wl_object_map.specs.declared.object.Object.{Object}
use Rattle.wl_object_map.specs.View.{max_births}
use Rattle.wl_object_map.specs.declared.object.Maker.{Maker}
use Rattle.wl_object_map.specs.declared.object.Maker.TheVariants.{Client}
use Rattle.wl_objects.specs.Messages.{NewObject, Received, is_bind, made, or_else, made_by}
use Rattle.wl_objects.specs.Writing.{message_len}
use Rattle.wl_objects.proofs.ArgumentsMeet.{met}
use Rattle.wl_recording.specs.declared.piece.Direction.TheVariants.{ToServer}
use Rattle.wl_check.specs.Changes.{Call, first_number}
use Rattle.wl_check.specs.Places.{KnownAtPlace as Knows}
use Rattle.wl_check.specs.Rules.{allows_bind, if_open, is_disallowed_bind, reader_by, version_of}
use Rattle.wl_check.specs.Session.{Judged}
use Rattle.theory_connection.specs.Meant.{made_in}
use Rattle.theory_connection.specs.World.{Row}
use Rattle.theory_connection.specs.Flight.{Rows}
use Rattle.theory_connection.proofs.EndedObject.{if_by}
use Rattle.theory_connection.proofs.MadeFor.{made_for}
use Rattle.theory_connection.proofs.Rules.{few_made}
use Rattle.theory_recording.specs.Follows.{KnownAs, birth_places, knowledge}
use Rattle.theory_peers.specs.AcceptedRequest.{IsAcceptedRequest, asked_as, asked_message}
use Rattle.theory_peers.specs.FollowsServer.{IsAskedAs}
use Rattle.theory_peers.proofs.AcceptedArguments.{FindsBirths, HasName, HaveNames, IsNew, args_right, if_made, meets_len}
use Rattle.theory_peers.proofs.AcceptedArguments.{one_made, open_row}
use Rattle.theory_peers.proofs.JudgedRequests.{IsJudgedAs, judged_as}
use Rattle.theory_peers.proofs.BirthsByPlace.{number_found}

-- ---- the interface that a bind names

-- no bind without a new object, and none at version 0
allowed : (tables : List Interface) (k : Knows) (name : Option ℕ) (new : Option NewObject)
    → allows_bind tables k name new ≡ true → (n : NewObject) × (new ≡ Some n) × (1 ≤ n.version)
allowed tables k None new h = absurd (cc h)
allowed tables k (Some name) None h = absurd (cc h)
allowed tables k (Some name) (Some n) h =
    let low = and_parts (nat_le 1 n.version && nat_le n.version (version_of tables n.iface))
    (nat_le n.version (k.advertised_version name n.iface.0)) h in
    let least = (and_parts (nat_le 1 n.version) (nat_le n.version (version_of tables n.iface)) low.0).0 in
    (n, refl, grind (arith, nat_tests, least))

one_name : (tables : List Interface) (version : ℕ) (value : Argument) (n : NewObject)
    → or_else (made_by tables version (kinds.New None) value) None ≡ Some n → 1 ≤ n.version
    → HasName tables (kinds.New None) value
one_name tables version (NewNamed name own id) n h least = by_place (place_of tables name) refl h
  where
    by_place : (o : Option Iface) → place_of tables name ≡ o
        → or_else (option_map (λ (i : Iface). let new : NewObject = record { id = id; iface = i; version = own } in new) o)
        None ≡ Some n
        → (iface : Iface) × (place_of tables name ≡ Some iface) × (1 ≤ own)
    by_place None there made_is = absurd (cc made_is)
    by_place (Some iface) there made_is =
        let same : record { id = id; iface = iface; version = own } ≡ n = cc made_is in
        let own_is : own ≡ n.version = ap (λ (x : NewObject). x.version) same in
        (iface, there, omega (arith, own_is, least))
one_name tables version value n h least = tt

bind_names : (tables : List Interface) (version : ℕ) (values : List Argument) (n : NewObject)
    → made tables version (kinds.Uint ∷ kinds.New None ∷ []) values ≡ Some n → 1 ≤ n.version
    → HaveNames tables (kinds.Uint ∷ kinds.New None ∷ []) values
bind_names tables version [] n h least = tt
bind_names tables version (v ∷ []) n h least = (tt, tt)
bind_names tables version (v ∷ (w ∷ values)) n h least = (tt, (one_name tables version w n h least, tt))

unnamed : (tables : List Interface) (ks : List Kind) (values : List Argument) → All (λ k. k ≢ kinds.New None) ks
    → HaveNames tables ks values
unnamed tables [] values h = tt
unnamed tables (kind ∷ ks) [] h = tt
unnamed tables (kind ∷ ks) (value ∷ values) h = (
  one kind value (h 0 kind (omega arith)),
  unnamed tables ks values (All-tail (λ (k : Kind). k ≢ kinds.New None) kind ks h),
)
  where
    one : (kind : Kind) (value : Argument) → kind ≢ kinds.New None → HasName tables kind value
    one (kinds.New None) value other = absurd (other refl)
    one kind value other = tt

-- the interfaces that an accepted request names are in the tables
names_there : (tables : List Interface) (k : Knows) (opcode : ℕ) (r : Received) → Valid tables
    → signature_at tables r.entry.iface.0 Request opcode ≡ Some r.signature
    → is_disallowed_bind tables k Request opcode r ≡ false → HaveNames tables r.signature.kinds r.values
names_there tables k opcode r v there binds =
    elim (v.unnamed_new_in_bind_alone r.entry.iface.0 Request opcode r.signature there) [
      | inl b ↦ (
          let bind : is_bind Request r.entry.iface opcode ≡ true =
          rw (eq-eqb r.entry.iface.0 1 b.registry, eq-eqb opcode 0 b.bind) refl in
          let own : signature_at tables 1 Request 0
          ≡ Some (fixed.message (codes "bind") 1 (fixed.uint ∷ fixed.new None ∷ []) Nothing) =
          rw v.fixed_four.registry refl in
          let both : Some r.signature ≡ Some (fixed.message (codes "bind") 1 (fixed.uint ∷ fixed.new None ∷ []) Nothing) =
          sym there ∙ (λ i. signature_at tables (b.registry i) Request (b.bind i)) ∙ own in
          let signature_is : r.signature ≡ fixed.message (codes "bind") 1 (fixed.uint ∷ fixed.new None ∷ []) Nothing =
          cc both in
          let kinds_are : r.signature.kinds ≡ kinds.Uint ∷ kinds.New None ∷ [] =
          ap (λ (s : MessageSignature). s.kinds) signature_is in
          let allows : allows_bind tables k (first_number r.values)
          (made tables r.entry.version r.signature.kinds r.values) ≡ true = allows_it bind binds in
          let new = allowed tables k (first_number r.values)
          (made tables r.entry.version r.signature.kinds r.values) allows in
          subst (λ (ks : List Kind). HaveNames tables ks r.values) (sym kinds_are)
          (bind_names tables r.entry.version r.values new.0
          (ap (λ (ks : List Kind). made tables r.entry.version ks r.values) (sym kinds_are) ∙ new.1) new.2)
          )
      | inr none ↦ unnamed tables r.signature.kinds r.values none
    ]
  where
    by_tests : (a b : Bool) → a ≡ true → a && not b ≡ false → b ≡ true
    by_tests true true t h = refl
    by_tests true false t h = absurd (cc h)
    by_tests false b t h = absurd (cc t)

    allows_it : is_bind Request r.entry.iface opcode ≡ true → is_disallowed_bind tables k Request opcode r ≡ false
        → allows_bind tables k (first_number r.values)
        (made tables r.entry.version r.signature.kinds r.values) ≡ true
    allows_it bind fine = by_tests (is_bind Request r.entry.iface opcode) (allows_bind tables k (first_number r.values)
        (made tables r.entry.version r.signature.kinds r.values)) bind fine

-- ---- the whole request

asked_one : (limit : ℕ) (tables : List Interface) (k : Knows) (places : Maker → List ℕ) (here : Rows Row)
    (stream : List ℕ) (place size waiting : ℕ) (call : Call) → Valid tables → KnownAs k places here → FindsBirths places
    → length (places Client) < max_births → All (λ b. b < 256) stream → size ≤ 65532
    → IsJudgedAs limit tables k stream place size waiting call → IsAskedAs tables here call (asked_message tables places k call)
asked_one limit tables k places here stream place size waiting call v a found few bytes short j =
    let r = j.received in
    let header = header_at (drop place stream) in
    let body = take (size - 8) (drop (place + 8) stream) in
    let id_is : r.target.id ≡ header.object = ap (λ (o : Object). o.id) j.read.target in
    let opens : if_open (k.object r.target.id) ≡ Some r.entry =
    ap (λ (id : ℕ). if_open (k.object id)) id_is ∙ j.read.opens in
    let since = v.sinces_in_range.from_one Request r.entry.iface.0 header.opcode r.signature j.read.there in
    let old : r.signature.since ≤ r.entry.version =
    ltb-false r.entry.version r.signature.since j.read.old_enough in
    let meets = met (reader_by tables k ToServer) 0 r.signature.kinds body r.values []
    (All-take (λ (b : ℕ). b < 256) (size - 8) (drop (place + 8) stream)
    (All-drop (λ (b : ℕ). b < 256) (place + 8) stream bytes)) j.read.arguments in
    let args = args_right tables k places here a found few r.entry.version (omega (arith, since, old)) meets
    (made_for tables v r.entry.iface.0 Request header.opcode r.signature j.read.there)
    (names_there tables k header.opcode r v j.read.there j.binds) in
    let own : Call = record { direction = ToServer; opcode = header.opcode; received = r } in
    let m = asked_message tables places k own in
    let new = if_made (IsNew here) m.args args.new in
    let least : 8 ≤ size = (let s = (and_parts (nat_le 8 size) (size % 4 == 0)
    (and_parts (nat_le 8 size && size % 4 == 0) (nat_le size limit) j.sized).0).0 in grind (arith, nat_tests, s)) in
    let len = meets_len meets in
    let taken = length-take (size - 8) (drop (place + 8) stream) in
    let wires = args.wired in
    let target_is : r.target ≡ record { id = r.target.id; birth = r.entry.birth } =
    j.read.target ∙ (λ i. record { id = sym id_is i; birth = r.entry.birth }) in
    subst (λ (c : Call). IsAskedAs tables here c (asked_message tables places k c)) (sym j.call_is) (record {
      fits = record {
        signature = r.signature;
        there = j.read.there;
        old_enough = old;
        args = args.suits;
        ends = refl;
        len = subst (λ (values : List Argument). message_len values ≤ 65532) (sym wires)
            (omega (arith, len, taken, least, short));
        word = (let low = number_at_fits (drop place stream) in omega (arith, low, id_is));
        opcode = omega arith;
        new_version = if_by (λ x n. n.1) (made_in m.args) new;
        new_is = one_made tables r.entry.version r.signature.kinds m.args args.suits
            (few_made tables v r.entry.iface.0 Request header.opcode r.signature j.read.there);
        no_error = refl;
      };
      entry = r.entry;
      iface = refl;
      version = refl;
      call_is = λ i. record {
        direction = ToServer;
        opcode = header.opcode;
        received = record {
          target = target_is i;
          entry = r.entry;
          signature = r.signature;
          values = sym wires i;
        };
      };
      target = open_row k places here a found r.target.id r.entry opens;
      args = args.opens;
      new = if_by (λ x n. n.0) (made_in m.args) new;
    })

-- an accepted request keeps the rules
pub asked_by : (limit : ℕ) (tables : List Interface) (e : List Judged) (here : Rows Row) (call : Call) → Valid tables
    → KnownAs (knowledge tables e) (birth_places tables e) here → IsAcceptedRequest limit tables e call
    → IsAskedAs tables here call (asked_as tables e call)
asked_by limit tables e here call v a c =
    asked_one limit tables (knowledge tables e) (birth_places tables e) here c.stream c.place c.size
    (c.tokens - (knowledge tables e).taken ToServer) call v a
    (number_found tables e) c.few c.bytes c.short
    (judged_as limit tables (knowledge tables e) c.stream c.place c.size c.tokens call c.is)
