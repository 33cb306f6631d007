use Rattle.std.proofs.Common.{◌≡◌, ◌+◌, ◌++◌, ◌∷◌, ℕ, [], length, map, take, refl, sym, ap, subst, ◌∙◌, List}
use Rattle.std.proofs.Common.{Option, append-nil, arith}
use Rattle.std.proofs.Math.Path.{fun_ext, ap₂}
use Rattle.std.proofs.Math.Seq.{take-length}
use Rattle.wl_text.specs.Text.{WrittenInterface}
use Rattle.wl_sigs.specs.Tables.{Interface}
use Rattle.wl_sigs.specs.Valid.{Valid}
use Rattle.wl_sigs.specs.Joined.{interface_placed}
use Rattle.wl_sigs.specs.Extended.{Gathered, all_grown, grown_by, whole_of}
use Rattle.wl_sigs.specs.Places.{PlacesFit, place_in}
use Rattle.wl_sigs.proofs.JoinedLookup.{length_names}
use Rattle.wl_sigs.proofs.JoinedValid.{places_fit, placed_more}
use Rattle.wl_sigs.proofs.Bodies.{few_whole, grown-next, whole_by}
use Rattle.wl_sigs.proofs.Got.{got}
use Rattle.wl_sigs.proofs.tables.Tables.extended.Goals as goal

pub grown-requires : goal.grown-requires
grown-requires g c =
    let tables = c.args.self.now in
    let more = c.args.gathered.now in
    let place = place_in c.args.places.now in
    let entries = c.as_slice-entries.ensures.value ∙ c.self.view_is in
    let declared = c.as_slice-declared.ensures.value ∙ ap (λ (x : Gathered). x.declared) c.gathered.view_is in
    let few = few_whole tables more c.requires.valid in
    let past = ap₂ (λ (m n : ℕ). m + n) (ap length entries) (ap length declared) in
    subst (PlacesFit place) (sym past) (places_fit tables more.declared few place c.requires.places)

pub placed-requires : goal.placed-requires
placed-requires g c =
    let tables = c.args.self.now in
    let more = c.args.gathered.now in
    let place = place_in c.args.places.now in
    let entries = c.as_slice-entries.ensures.value ∙ c.self.view_is in
    let declared = c.as_slice-declared.ensures.value ∙ ap (λ (x : Gathered). x.declared) c.gathered.view_is in
    let few = few_whole tables more c.requires.valid in
    let past = ap₂ (λ (m n : ℕ). m + n) (ap length entries) (ap length declared) in
    subst (PlacesFit place) (sym past) (places_fit tables more.declared few place c.requires.places)

pub loop-place-preserved : goal.loop-place-preserved
loop-place-preserved g c =
    let entries = c.as_slice-entries.result.now in
    let added = c.as_slice-added.result.now in
    let place = place_in c.args.places.now in
    let past = length entries + length c.as_slice-declared.result.now in
    let x = c.index-entries-place.result in
    c.in_ok-push.ensures.items
    ∙ ap₂ (λ (l : List Interface) (i : Interface). l ++ i ∷ []) c.loop-place.invariant
    (c.in_ok-grown.ensures
    ∙ ap (λ (o : Option WrittenInterface). grown_by place past x o)
    (got c.get.result added c.loop-place.place c.get.ensures.lookup.0 c.get.ensures.lookup.1))
    ∙ sym (grown-next place past entries c.loop-place.place x added c.loop-place-test.true c.index-entries-place.is)

pub loop-interface-init : goal.loop-interface-init
loop-interface-init g c =
    let place = place_in c.args.places.now in
    let past = length c.as_slice-entries.result.now + length c.as_slice-declared.result.now in
    let entries = c.as_slice-entries.ensures.value ∙ c.self.view_is in
    let added = c.as_slice-added.ensures.value ∙ ap (λ (x : Gathered). x.added) c.gathered.view_is in
    let all : c.loop-place.place ≡ length c.as_slice-entries.result.now = omega arith in
    let whole : take c.loop-place.place c.as_slice-entries.result.now ≡ c.as_slice-entries.result.now =
    rw all (take-length c.as_slice-entries.result.now) in
    c.loop-place.invariant
    ∙ ap₂ (λ (xs : List Interface) (ws : List WrittenInterface). all_grown place past xs ws) (whole ∙ entries) added
    ∙ sym (append-nil (all_grown place past c.args.self.now c.args.gathered.now.added))

pub loop-interface-preserved : goal.loop-interface-preserved
loop-interface-preserved g c =
    let place = place_in c.args.places.now in
    let past = length c.as_slice-entries.result.now + length c.as_slice-declared.result.now in
    let front = all_grown place past c.args.self.now c.args.gathered.now.added in
    c.in_ok-push-2.ensures.items
    ∙ ap₂ (λ (l : List Interface) (i : Interface). l ++ i ∷ []) c.loop-interface.invariant c.in_ok-placed.ensures
    ∙ placed_more (interface_placed place past) front c.as_slice-declared.result.now c.loop-interface.interface-index
    c.interface-item.result c.loop-interface-test.true c.interface-item.is

pub returns : goal.returns
returns g c =
    let tables = c.args.self.now in
    let more = c.args.gathered.now in
    let written = c.as_slice-declared.result.now in
    let place = place_in c.args.places.now in
    let past = length c.as_slice-entries.result.now + length written in
    let entries = c.as_slice-entries.ensures.value ∙ c.self.view_is in
    let declared = c.as_slice-declared.ensures.value ∙ ap (λ (x : Gathered). x.declared) c.gathered.view_is in
    let past_is = ap₂ (λ (m n : ℕ). m + n) (ap length entries) (ap length declared)
    ∙ sym (length_names tables more.declared) in
    let all : c.loop-interface.interface-index ≡ length written = omega arith in
    let whole : take c.loop-interface.interface-index written ≡ written = rw all (take-length written) in
    c.loop-interface.invariant
    ∙ ap (λ (ws : List WrittenInterface). all_grown place past tables more.added
    ++ map (interface_placed place past) ws) whole
    ∙ whole_by tables more tables more.added written place past refl refl declared (fun_ext c.requires.places) past_is

pub invariant_of-result : goal.invariant_of-result
invariant_of-result g c =
    let tables = c.args.self.now in
    let more = c.args.gathered.now in
    let written = c.as_slice-declared.result.now in
    let place = place_in c.args.places.now in
    let past = length c.as_slice-entries.result.now + length written in
    let entries = c.as_slice-entries.ensures.value ∙ c.self.view_is in
    let declared = c.as_slice-declared.ensures.value ∙ ap (λ (x : Gathered). x.declared) c.gathered.view_is in
    let past_is = ap₂ (λ (m n : ℕ). m + n) (ap length entries) (ap length declared)
    ∙ sym (length_names tables more.declared) in
    let all : c.loop-interface.interface-index ≡ length written = omega arith in
    let whole : take c.loop-interface.interface-index written ≡ written = rw all (take-length written) in
    let is : c.loop-interface.interfaces.items ≡ whole_of tables more = c.loop-interface.invariant
    ∙ ap (λ (ws : List WrittenInterface). all_grown place past tables more.added
    ++ map (interface_placed place past) ws) whole
    ∙ whole_by tables more tables more.added written place past refl refl declared (fun_ext c.requires.places)
    past_is in
    subst Valid (sym is) c.requires.valid
