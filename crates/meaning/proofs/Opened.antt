-- One name that opens every definition, for what is computed: a line `unfolding opened` stands for the line below.
use Rattle.meaning.specs.Kinds as Kinds
use Rattle.meaning.specs.Floats as Floats
use Rattle.meaning.specs.Scalars as Scalars
use Rattle.meaning.specs.Trees as Trees
use Rattle.meaning.specs.Answers as Answers
use Rattle.meaning.specs.Records as Records
use Rattle.meaning.specs.Read as Read
use Rattle.meaning.specs.Convert as Convert
use Rattle.meaning.specs.Build as Build
use Rattle.meaning.specs.Typing as Typing
use Rattle.meaning.specs.Entries as Entries
use Rattle.meaning.specs.Batch as Batch
use Rattle.meaning.specs.Layout as Layout
use lib.Ieee.{size}

unfoldable pub opened : Unit {0}
unfolding size Kinds.kind_no Kinds.kind_of Kinds.payloads Kinds.pay_width Kinds.same_kind Kinds.is_abstract Kinds.is_float
    Kinds.from_aint Kinds.from_afloat Kinds.from_same Kinds.kind_rank Floats.integer Floats.of_fields Floats.value
    Floats.dropped Floats.packed Floats.bits Floats.finite Floats.largest Floats.outside Scalars.checked Scalars.twos
    Scalars.number Scalars.wrap Scalars.toward Scalars.within Scalars.conv_fits Scalars.conv_bits Scalars.some?
    Scalars.fits_conv Scalars.conv Scalars.hi_of Scalars.lo_of Scalars.keeps_bits Scalars.before_f16 Scalars.nonzero
    Scalars.ctor_bits Scalars.ctor_test Scalars.fits_ctor Trees.tys_list Trees.tys_of Trees.vals_list Trees.vals_of
    Trees.count_vals Trees.first Trees.type_of Trees.types_of Trees.depth Trees.depths Trees.lit_len Trees.val_len
    Trees.val_lens Trees.leaf Trees.set_leaf Trees.inner Trees.zero_of Trees.zeros_of Answers.all Answers.all_some
    Answers.map_some Records.le Records.lit_bytes Records.joined Records.vec_bytes Records.columns Records.ty_bytes
    Records.tys_bytes Records.val_bytes Records.vals_bytes Records.target_bytes Trees.same_ty Records.side Records.u16
    Records.shaped_ty Records.shaped_tys Records.good_within Records.good_ty Records.good_target Records.every
    Records.good_lit Records.all_same Records.shaped_val Records.shaped_vals Records.good_val Records.good_arg Records.good_tys
    Records.good_args Read.p_kind Read.p_scalar_ty Read.p_ts Read.p_tv Read.p_tm Read.p_ta Read.p_tu Read.p_ty Read.p_payload
    Read.p_lit Read.one_kind Read.flat Read.p_vs Read.p_vv Read.p_rows Read.p_vm Read.p_va Read.p_vu Read.p_val Read.whole
    Read.upto Read.if? Read.p_qv Read.p_qm Read.p_shape Read.p_tr Read.p_runtime Read.p_of Read.read_target Read.read_vals
    Read.read_tys Convert.leaf_rank Convert.rank Convert.converts Convert.conv_lits Convert.conv_all Convert.conv_leaf
    Convert.conv_val Convert.conv_runtime Convert.meet Convert.common_from Convert.common Convert.float_kind Build.ctor_lit
    Build.scalar_of Build.parts Build.flattened Build.payload Build.vec_parts Build.vec_one Build.lit_kind Build.qv_parts
    Build.qv_one Build.elements Build.memberwise Build.struct_of Build.array_of Build.runtime_of Build.qa_of Build.mat_shape
    Build.payloads_of Build.payloads_of_all Build.to_inner Build.mat_parts Build.same_size Build.mat_one Build.qm_parts
    Build.qm_one Build.build_one Build.build_more Build.build Typing.type_scalar Typing.type_vec_one Typing.part_kind
    Typing.part_count Typing.total Typing.part_of Typing.part_to Typing.type_vec Typing.type_qv_one Typing.type_qv
    Typing.type_array Typing.memberwise_ty Typing.type_struct Typing.type_mat Typing.type_mat_one Typing.type_qm
    Typing.type_qm_one Typing.type_qa Typing.typeable Typing.type_one Typing.type_more Typing.typed Entries.stage_of
    Entries.hand_val Entries.hand_ty Entries.build_answer Entries.type_answer Entries.laid Entries.conv_one Entries.rank_one
    Entries.type_target Entries.only Entries.convert_answer Entries.rank_answer Entries.hex_digit Entries.hex
    Entries.decimal_from Entries.decimal Entries.line Entries.run_ctor Batch.part Batch.inside Batch.parts_inside
    Batch.alone Batch.record_of Batch.turns Batch.records Batch.batch_turns Batch.batch_answer Read.read_val Layout.laid_kind
    Layout.has_layout Layout.scalar_size Layout.round_up Layout.vec_align Layout.align_of Layout.col_stride Layout.size_of
    Layout.stride Layout.offsets Layout.zeros Layout.mem_vec Layout.mem_col Layout.mem_bytes Layout.number_of Layout.apart
    Layout.mem_scalar Layout.mem_scalars Layout.mem_value Layout.repeat Layout.used Layout.cleared Layout.laid_type
    Layout.write_answer Layout.read_answer Layout.layout_answer
opened = tt
