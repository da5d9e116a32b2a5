-- Interface. The laws of the definitions, which are proved, so that nobody has to believe them.
pub mod OnePeer
