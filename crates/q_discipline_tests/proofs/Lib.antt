mod FnvValues
