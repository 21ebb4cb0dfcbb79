use Rattle.std.proofs.Common.{length, sym, ap, subst, arith}
use Rattle.setup_file.specs.Valid.{IsSetup}
use Rattle.board_ledger.proofs.SetupBounds.{board_small, user_small, bbsid_small}
use Rattle.board_ledger.proofs.write.add_setup.Goals as goal

pub add_text-requires : goal.add_text-requires
add_text-requires c = let ok = subst IsSetup (sym c.fields-fields.ensures.fields) c.fields-fields.ensures.valid in omega (arith, board_small c.fields-fields.result.now.board ok.board, ap length c.as_slice.ensures.same)

pub add_text-requires-2 : goal.add_text-requires-2
add_text-requires-2 c = let ok = subst IsSetup (sym c.fields-fields.ensures.fields) c.fields-fields.ensures.valid in omega (arith, board_small c.fields-fields.result.now.city ok.city, ap length c.as_slice-2.ensures.same)

pub add_text-requires-3 : goal.add_text-requires-3
add_text-requires-3 c = let ok = subst IsSetup (sym c.fields-fields.ensures.fields) c.fields-fields.ensures.valid in omega (arith, board_small c.fields-fields.result.now.phone ok.phone, ap length c.as_slice-3.ensures.same)

pub add_text-requires-4 : goal.add_text-requires-4
add_text-requires-4 c = let ok = subst IsSetup (sym c.fields-fields.ensures.fields) c.fields-fields.ensures.valid in omega (arith, user_small c.fields-fields.result.now.sysop ok.sysop, ap length c.as_slice-4.ensures.same)

pub add_text-requires-5 : goal.add_text-requires-5
add_text-requires-5 c = let ok = subst IsSetup (sym c.fields-fields.ensures.fields) c.fields-fields.ensures.valid in omega (arith, bbsid_small c.fields-fields.result.now.bbsid ok.bbsid, ap length c.as_slice-5.ensures.same)
