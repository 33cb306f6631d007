use Rattle.std.proofs.Common.{◌≡◌, ◌∷◌, [], length, Some, sym, ap, ◌∙◌, arith}
use Rattle.std.specs.Prelude.{map}
use Rattle.std.proofs.lemmas.List.{map-append}
use Rattle.std.proofs.lemmas.List.Elements.{All-pop, All-push}
use Rattle.hex.specs.Hex.{IsBytes}
use Rattle.wl_recording.specs.Piece.{recorded_piece, last_len, IsTellable}
use Rattle.wl_recording.proofs.FillLemmas.{last_len-push, written_over, rewritten}
use Rattle.wl_recording.proofs.WriteLemmas.{tellable_with}
use Rattle.wl_recording.proofs.recording.Recording.fill_last.Goals as goal

pub copy_from_slice-requires : goal.copy_from_slice-requires
copy_from_slice-requires g c =
    let items = c.in-Some.ensures.items in
    let whole = sym c.self.view_is ∙ ap (map recorded_piece) items
    ∙ map-append recorded_piece c.pop.new.self.items (c.in-Some.last ∷ []) in
    let last = last_len-push (map recorded_piece c.pop.new.self.items) (recorded_piece c.in-Some.last) in
    let requires : length c.args.bytes.now ≡ length c.in-Some.last.bytes = c.requires ∙ ap last_len whole ∙ last in
    ap length (c.as_mut_slice.ensures.value ∙ c.into_vec-held.ensures) ∙ sym requires

pub invariant_of-self-2 : goal.invariant_of-self-2
invariant_of-self-2 g c =
    let items = c.in-Some.ensures.items in
    let whole = ap (map recorded_piece) items ∙ map-append recorded_piece c.pop.new.self.items (c.in-Some.last ∷ []) in
    let kept = All-pop IsTellable _ (map recorded_piece c.pop.new.self.items)
    (Some (recorded_piece c.in-Some.last)) whole c.self.invariant in
    let small : IsBytes c.args.bytes.now = λ k. let fits = c.type_inv.bytes k in omega arith in
    let same : length c.copy_from_slice.new.self ≡ c.into_vec-held.result.len =
    c.copy_from_slice.ensures.len ∙ c.as_mut_slice.ensures.len in
    let bytes : c.from_vec.result ≡ c.args.bytes.now =
    c.from_vec.ensures ∙ written_over _ _ _ same ∙ c.copy_from_slice.ensures.after in
    rw (c.push_reserved.ensures.items, map-append)
    (All-push IsTellable _ _ kept.0 (tellable_with c.in-Some.last.direction _ _ c.in-Some.last.tokens bytes small
    kept.1.tokens))

pub returns : goal.returns
returns g c =
    let items = c.in-Some.ensures.items in
    let whole = sym c.self.view_is ∙ ap (map recorded_piece) items
    ∙ map-append recorded_piece c.pop.new.self.items (c.in-Some.last ∷ []) in
    let same : length c.copy_from_slice.new.self ≡ c.into_vec-held.result.len =
    c.copy_from_slice.ensures.len ∙ c.as_mut_slice.ensures.len in
    let bytes : c.from_vec.result ≡ c.args.bytes.now =
    c.from_vec.ensures ∙ written_over _ _ _ same ∙ c.copy_from_slice.ensures.after in
    ap (map recorded_piece) c.push_reserved.ensures.items ∙ map-append recorded_piece c.pop.new.self.items _
    ∙ rewritten (map recorded_piece c.pop.new.self.items) c.args.self.now (recorded_piece c.in-Some.last) _ _ whole
    bytes
