-- An event that the checker accepts is one that keeps the rules.
use Rattle.std.proofs.Common.{◌≡◌, ℕ, ◌+◌, ◌-◌, ◌<◌, ◌≤◌, Bool, false, List, []}
use Rattle.std.proofs.Common.{length, length-take, take, drop, refl, sym, ap, subst, ◌∙◌, arith}
use Rattle.std.specs.Prelude.{◌&&◌, ◌==◌, ◌%◌, nat_le}
use Rattle.std.specs.List.{All}
use Rattle.std.specs.declared.option.Option.TheVariants.{Some}
use Rattle.std.proofs.lemmas.Bool.{and_parts, ltb-false}
use Rattle.std.proofs.lemmas.Bool.Decides.{nat_tests}
use Rattle.std.proofs.lemmas.List.Elements.{All-drop, All-take}
use Rattle.wl_wire.specs.declared.kind.Kind.{Kind}
use Rattle.wl_wire.specs.declared.kind.Kind.TheVariants as kinds
use Rattle.wl_wire.specs.Argument.{Argument}
use Rattle.wl_wire.specs.Word.{header_at}
use Rattle.wl_wire.proofs.Numbers.{number_at_fits}
use Rattle.wl_sigs.specs.Side.TheVariants.{Event as event_side}
use Rattle.wl_sigs.specs.Fixed as fixed
use Rattle.wl_sigs.specs.Tables.{Interface}
use Rattle.wl_sigs.specs.Valid.{Valid}
use Rattle.wl_object_map.specs.declared.object.Object.{Object}
use Rattle.wl_object_map.specs.declared.object.Maker.{Maker}
use Rattle.wl_object_map.specs.declared.object.Maker.TheVariants.{Server}
use Rattle.wl_object_map.specs.View.{max_births}
use Rattle.wl_objects.specs.Messages.{is_error, made}
use Rattle.wl_objects.specs.Reading.{arguments_at, forgiving}
use Rattle.wl_objects.specs.Writing.{message_len}
use Rattle.wl_objects.proofs.ArgumentsMeet.{met}
use Rattle.wl_recording.specs.declared.piece.Direction.TheVariants.{ToClient}
use Rattle.wl_check.specs.Changes.{Call, changes}
use Rattle.wl_check.specs.Places.{KnownAtPlace as Knows}
use Rattle.wl_check.specs.Rules.{reader_by}
use Rattle.wl_check.specs.Session.{Judged}
use Rattle.theory_connection.specs.Meant.{made_in}
use Rattle.theory_connection.specs.World.{Row}
use Rattle.theory_connection.specs.Flight.{Rows}
use Rattle.theory_connection.proofs.EndedObject.{if_by}
use Rattle.theory_connection.proofs.MadeFor.{made_for}
use Rattle.theory_connection.proofs.Rules.{few_made}
use Rattle.theory_recording.specs.Follows.{KnownAs, birth_places, knowledge}
use Rattle.theory_peers.specs.AcceptedEvent.{IsAcceptedEvent, ReplacesNone, told_as, meant_event}
use Rattle.theory_peers.specs.FollowsClient.{IsToldAs}
use Rattle.theory_peers.proofs.AcceptedArguments.{FindsBirths, if_made, meets_len, one_made}
use Rattle.theory_peers.proofs.BirthsByPlace.{number_found}
use Rattle.theory_peers.proofs.EventArguments.{IsNewTold, all_replaced, held_by_place, tells_right}
use Rattle.theory_peers.proofs.JudgedEvents.{IsEventJudgedAs, event_judged_as}

-- ---- the whole event

told_one : (limit : ℕ) (tables : List Interface) (k : Knows) (places : Maker → List ℕ) (here : Rows Row)
    (stream : List ℕ) (place size waiting : ℕ) (call : Call) → Valid tables → KnownAs k places here → FindsBirths places
    → length (places Server) < max_births → All (λ b. b < 256) stream → size ≤ 65532
    → is_error event_side call.received.entry.iface call.opcode ≡ false → ReplacesNone k (changes tables call).made
    → IsEventJudgedAs limit tables k stream place size waiting call → IsToldAs tables here call (meant_event tables places k call)
told_one limit tables k places here stream place size waiting call v a found few bytes short on replaces j =
    let r = j.received in
    let header = header_at (drop place stream) in
    let body = take (size - 8) (drop (place + 8) stream) in
    let id_is : r.target.id ≡ header.object = ap (λ (o : Object). o.id) j.read.target in
    let held : k.object r.target.id ≡ Some r.entry =
    ap (λ (id : ℕ). k.object id) id_is ∙ j.read.held in
    let since = v.sinces_in_range.from_one event_side r.entry.iface.0 header.opcode r.signature j.read.there in
    let old : r.signature.since ≤ r.entry.version =
    ltb-false r.entry.version r.signature.since j.read.old_enough in
    let goes : is_error event_side r.entry.iface header.opcode ≡ false =
    ap (λ (c : Call). is_error event_side c.received.entry.iface c.opcode) (sym j.call_is) ∙ on in
    let arguments = ap (λ (b : Bool). arguments_at (forgiving b (reader_by tables k ToClient)) 0 r.signature.kinds body)
    (sym goes) ∙ j.read.arguments in
    let meets = met (reader_by tables k ToClient) 0 r.signature.kinds body r.values []
    (All-take (λ (b : ℕ). b < 256) (size - 8) (drop (place + 8) stream)
    (All-drop (λ (b : ℕ). b < 256) (place + 8) stream bytes)) arguments in
    let made_for_it = made_for tables v r.entry.iface.0 event_side header.opcode r.signature j.read.there in
    let few_in_it = few_made tables v r.entry.iface.0 event_side header.opcode r.signature j.read.there in
    let replaces_it : ReplacesNone k (made tables r.entry.version r.signature.kinds r.values) =
    subst (λ (c : Call). ReplacesNone k (changes tables c).made) j.call_is replaces in
    let args = tells_right tables k places here a found few r.entry.version (omega (arith, since, old)) meets
    made_for_it (all_replaced tables k r.entry.version r.signature.kinds r.values made_for_it few_in_it replaces_it) in
    let own : Call = record { direction = ToClient; opcode = header.opcode; received = r } in
    let m = meant_event tables places k own in
    let new = if_made (IsNewTold here) m.args args.new in
    let least : 8 ≤ size = (let s = (and_parts (nat_le 8 size) (size % 4 == 0)
    (and_parts (nat_le 8 size && size % 4 == 0) (nat_le size limit) j.sized).0).0 in grind (arith, nat_tests, s)) in
    let len = meets_len meets in
    let taken = length-take (size - 8) (drop (place + 8) stream) in
    let wires = args.wired in
    let target_is : r.target ≡ record { id = r.target.id; birth = r.entry.birth } =
    j.read.target ∙ (λ i. record { id = sym id_is i; birth = r.entry.birth }) in
    subst (λ (c : Call). IsToldAs tables here c (meant_event tables places k c)) (sym j.call_is) (record {
      fits = record {
        signature = r.signature;
        there = j.read.there;
        old_enough = old;
        args = args.suits;
        ends = refl;
        len = subst (λ (values : List Argument). message_len values ≤ 65532) (sym wires)
            (omega (arith, len, taken, least, short));
        word = (let low = number_at_fits (drop place stream) in omega (arith, low, id_is));
        opcode = omega arith;
        new_version = if_by (λ x n. n.1) (made_in m.args) new;
        new_is = one_made tables r.entry.version r.signature.kinds m.args args.suits few_in_it;
        no_error = goes;
      };
      entry = r.entry;
      iface = refl;
      version = refl;
      call_is = λ i. record {
        direction = ToClient;
        opcode = header.opcode;
        received = record {
          target = target_is i;
          entry = r.entry;
          signature = r.signature;
          values = sym wires i;
        };
      };
      target = held_by_place k places here a found r.target.id r.entry held;
      args = args.held;
      new = if_by (λ x n. n.0) (made_in m.args) new;
    })

-- an accepted event keeps the rules
pub told_by : (limit : ℕ) (tables : List Interface) (e : List Judged) (here : Rows Row) (call : Call) → Valid tables
    → KnownAs (knowledge tables e) (birth_places tables e) here → IsAcceptedEvent limit tables e call
    → IsToldAs tables here call (told_as tables e call).event
told_by limit tables e here call v a c =
    told_one limit tables (knowledge tables e) (birth_places tables e) here c.stream c.place c.size
    (c.tokens - (knowledge tables e).taken ToClient) call v a
    (number_found tables e) c.few c.bytes c.short c.goes_on c.replaces
    (event_judged_as limit tables (knowledge tables e) c.stream c.place c.size c.tokens call c.is)
