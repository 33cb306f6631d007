use Rattle.std.proofs.Common.{◌≡◌, true, false, List, sym, ap, ◌∙◌, nat_le, not, ◌&&◌}
use Rattle.std.specs.List.{list_all, count_by}
use Rattle.wl_text.specs.Text.{WrittenKind, WrittenMessage}
use Rattle.wl_rules.specs.Broken.{names_missing, makes_server_object, most_by_server, makes_forbidden}
use Rattle.wl_rules.specs.Places.{place_in}
use Rattle.wl_rules.proofs.FirstBrokenLine.{later_six, later_seven, later_eight, later_nine, later_eleven, later_none}
use Rattle.wl_rules.proofs.rules.later_rule.Goals as goal

pub returns-then-not-names_objects : goal.returns-then-not-names_objects
returns-then-not-names_objects g c = λ i is.
    sym (later_six (place_in c.args.places.now) c.args.ended.now i c.args.owner.side c.args.message.now
    (sym c.names_objects.ensures ∙ c.if-not-names_objects.true))

pub returns-then-not-is_race_free : goal.returns-then-not-is_race_free
returns-then-not-is_race_free g c = λ i is.
    sym (later_seven (place_in c.args.places.now) c.args.ended.now i c.args.owner.side c.args.message.now
    (sym c.names_objects.ensures ∙ c.if-not-names_objects.false)
    (sym (c.is_race_free.ensures i is) ∙ c.if-not-is_race_free.true))

pub returns-then-not-is_since_a_version : goal.returns-then-not-is_since_a_version
returns-then-not-is_since_a_version g c = λ i is.
    let m : WrittenMessage = c.args.message.now in
    sym (later_eight (place_in c.args.places.now) c.args.ended.now i c.args.owner.side m
    (sym c.names_objects.ensures ∙ c.if-not-names_objects.false)
    (sym (c.is_race_free.ensures i is) ∙ c.if-not-is_race_free.false)
    (ap (λ version. nat_le 1 m.since && nat_le m.since version) is.0
    ∙ (sym c.is_since_a_version.ensures ∙ c.if-not-is_since_a_version.true)))

pub returns-then-not-none_missing : goal.returns-then-not-none_missing
returns-then-not-none_missing g c = λ i is.
    let m : WrittenMessage = c.args.message.now in
    let place = place_in c.args.places.now in
    let kinds_are : m.kinds ≡ c.as_slice-kinds.result.now =
    sym (c.as_slice-kinds.ensures.value ∙ ap (λ (x : WrittenMessage). x.kinds) c.message.view_is) in
    let missing : list_all (λ k. not (names_missing place k)) m.kinds ≡ false =
    ap (list_all (λ (k : WrittenKind). not (names_missing place k))) kinds_are
    ∙ (sym c.none_missing.ensures ∙ c.if-not-none_missing.true) in
    sym (later_nine place c.args.ended.now i c.args.owner.side m
    (sym c.names_objects.ensures ∙ c.if-not-names_objects.false)
    (sym (c.is_race_free.ensures i is) ∙ c.if-not-is_race_free.false)
    (ap (λ version. nat_le 1 m.since && nat_le m.since version) is.0
    ∙ (sym c.is_since_a_version.ensures ∙ c.if-not-is_since_a_version.false)) missing)

pub returns-then-not-allows_server_objects : goal.returns-then-not-allows_server_objects
returns-then-not-allows_server_objects g c = λ i is.
    let m : WrittenMessage = c.args.message.now in
    let place = place_in c.args.places.now in
    let kinds_are : m.kinds ≡ c.as_slice-kinds.result.now =
    sym (c.as_slice-kinds.ensures.value ∙ ap (λ (x : WrittenMessage). x.kinds) c.message.view_is) in
    let missing : list_all (λ k. not (names_missing place k)) m.kinds ≡ true =
    ap (list_all (λ (k : WrittenKind). not (names_missing place k))) kinds_are
    ∙ (sym c.none_missing.ensures ∙ c.if-not-none_missing.false) in
    let right : nat_le (count_by makes_server_object m.kinds) (most_by_server c.args.owner.side)
    && list_all (λ k. not (makes_forbidden place c.args.ended.now k)) m.kinds ≡ false =
    ap (λ (ks : List WrittenKind). nat_le (count_by makes_server_object ks) (most_by_server c.args.owner.side)
    && list_all (λ k. not (makes_forbidden place c.args.ended.now k)) ks) kinds_are
    ∙ (sym c.allows_server_objects.ensures ∙ c.if-not-allows_server_objects.true) in
    sym (later_eleven place c.args.ended.now i c.args.owner.side m
    (sym c.names_objects.ensures ∙ c.if-not-names_objects.false)
    (sym (c.is_race_free.ensures i is) ∙ c.if-not-is_race_free.false)
    (ap (λ version. nat_le 1 m.since && nat_le m.since version) is.0
    ∙ (sym c.is_since_a_version.ensures ∙ c.if-not-is_since_a_version.false)) missing right)

pub returns-else-not-allows_server_objects : goal.returns-else-not-allows_server_objects
returns-else-not-allows_server_objects g c = λ i is.
    let m : WrittenMessage = c.args.message.now in
    let place = place_in c.args.places.now in
    let kinds_are : m.kinds ≡ c.as_slice-kinds.result.now =
    sym (c.as_slice-kinds.ensures.value ∙ ap (λ (x : WrittenMessage). x.kinds) c.message.view_is) in
    let missing : list_all (λ k. not (names_missing place k)) m.kinds ≡ true =
    ap (list_all (λ (k : WrittenKind). not (names_missing place k))) kinds_are
    ∙ (sym c.none_missing.ensures ∙ c.if-not-none_missing.false) in
    let right : nat_le (count_by makes_server_object m.kinds) (most_by_server c.args.owner.side)
    && list_all (λ k. not (makes_forbidden place c.args.ended.now k)) m.kinds ≡ true =
    ap (λ (ks : List WrittenKind). nat_le (count_by makes_server_object ks) (most_by_server c.args.owner.side)
    && list_all (λ k. not (makes_forbidden place c.args.ended.now k)) ks) kinds_are
    ∙ (sym c.allows_server_objects.ensures ∙ c.if-not-allows_server_objects.false) in
    sym (later_none place c.args.ended.now i c.args.owner.side m
    (sym c.names_objects.ensures ∙ c.if-not-names_objects.false)
    (sym (c.is_race_free.ensures i is) ∙ c.if-not-is_race_free.false)
    (ap (λ version. nat_le 1 m.since && nat_le m.since version) is.0
    ∙ (sym c.is_since_a_version.ensures ∙ c.if-not-is_since_a_version.false)) missing right)
